-- The lemmas of rc_args, in reading order.

-- What `clap`'s clauses say of the program's own rule.
pub mod WordsLemmas
-- What the words ask, by the matches that `clap` makes of them.
mod InvocationLemmas
-- What the words ask of `db`, by the matches that `clap` makes of them.
mod DbAskedLemmas
-- What the words ask of `session`, by the matches that `clap` makes of them.
mod SessionWordsLemmas
-- What the words ask of a session of one line, by the matches that `clap` makes of them.
mod OnceLemmas
-- Words that name transitions.
mod Spelling
-- The words of a text are texts.
mod TextWords
