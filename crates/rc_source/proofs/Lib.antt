-- The lemmas of rc_source, in reading order.

-- What is known of a tree that tells what it holds.
mod Known
-- Membership in lists, head by head, and lists in byte order.
pub mod Members
-- What ordered keys show as texts: `bytes` reads a key.
mod TextSets
-- The exit of a `?`.
mod Exits
-- What is left of a tree after a call that succeeded and what follows it.
mod Asking
-- Numbers read digit by digit.
mod Digits
-- What stops at the first of a list that does not pass, and what is left of a list after those that
-- passed.
mod Stopping
-- What reading some files of an entry says of them all.
mod EntryFiles
-- What an entry means, from what its files say.
mod EntryMeaning
-- What the parts of reading an entry say of its tests.
mod EntryTests
-- What reading one file shows of its flaws.
mod FileFlaws
-- The members of a list that pass a test.
mod Filtering
-- The names that a file and a folder give, as they are put together.
mod Folders
-- The names of lines, line by line.
mod Lines
-- The names of definitions, one by one.
mod Meant
-- An entry means one thing.
mod OneMeaning
-- What is refused is refused in one way.
mod OneRefusal
-- How far the reading of entries and of sources has come.
mod Reading
-- The trees of a slice, one by one.
mod Sources
