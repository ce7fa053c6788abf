-- The lemmas of rc_db, in reading order.

-- What a service writes for, and what holds of all parts once it holds of each.
mod Fits
-- What a table has under each name after a change, and that it stays a table.
pub mod Values
-- What a table is after a bundle went in, was written over or was taken out.
mod Growing
-- What the kinds of a database's services are.
mod KindLemmas
-- Names that are listed in byte order, some of one list or all of two.
pub mod Listing
-- Where pipelines end: each service's in one place, found in the order of needs.
pub mod Pipelines
-- Sets that queries answer.
mod Reaching
-- What words stand for, word by word.
pub mod Words
