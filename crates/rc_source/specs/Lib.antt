-- The definitions of rc_source, in reading order.

-- What a tree of source files holds: its directories, its files, and what a look into it lists.
pub mod Tree
-- The files of a table, each a path with its bytes.
pub mod Shown
-- When a look into a tree is refused: a device fails, or a file is too long.
pub mod TreeFaults
-- What a call leaves of a tree.
pub mod Asked
-- What a file's text gives: a kind, a limit, a script, or names.
pub mod Texts
-- The files of a service directory by its kind, and what each is to hold.
pub mod Kinds
-- Tests in order: where reading stops first.
pub mod Stops
-- The tests of one file: what is wrong with it, and where reading stops.
pub mod Files
-- All tests of sources in the order in which they are made, and the flaw at which reading stops.
pub mod Tests
-- What the files of a service directory say of the service or bundle of its name.
pub mod Meaning
-- What was read of the files of an entry, part by part.
pub mod Said
