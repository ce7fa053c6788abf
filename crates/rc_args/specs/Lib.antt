-- The definitions of rc_args, in reading order.

-- The commands of the program, as they are told to `clap`.
pub mod Commands
-- The words of a command line, as `clap` reads them.
pub mod Words
-- The words of the queries of `db` that names follow.
pub mod QueryWords
-- The commands of the program, as its tables tell of them.
pub mod Told
-- The words that stand for a command with one of its flags.
pub mod CommandWords
-- What the words ask of a command.
pub mod Asked
-- What may be asked of a database, and the words that ask it.
pub mod Query
-- The numbers of milliseconds among the words, that of a state, and that of a generation.
pub mod Limits
-- What the words ask of `db`.
pub mod DbAsked
-- Lists of transitions as an option spells them: the words between commas.
pub mod Listed
-- How the transitions of a session are made, by its options.
pub mod Programs
-- A transition that was read, by its way and the name of its service.
pub mod Reading
-- What a request of the program says about how transitions are made.
pub mod Making
-- Which transitions a command reports, by its flags.
pub mod Reported
-- What the words ask of `session`.
pub mod SessionAsked
-- What the words ask of a session of one line.
pub mod OnceAsked
-- What the words ask of `update`.
pub mod UpdateAsked
-- What the file of the renames says.
pub mod Renames
-- What the words ask of `restart`, `status` and `check`.
pub mod NamedAsked
-- What the words ask of `compile`.
pub mod CompileAsked
-- What the words ask of `replay`.
pub mod ReplayAsked
-- What a command is given where its words name nothing.
pub mod Defaults
-- What the words ask, of whichever command.
pub mod Invocation
