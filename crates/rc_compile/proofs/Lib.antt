-- The lemmas of rc_compile, in reading order.

-- What is told of a device that failed.
mod CompileLemmas
-- A walk along lists of ids: what was seen, and what of it is still to be followed.
mod Walks
-- Sets that are joined along a graph, each once those that it takes are whole.
mod Joins
-- Lists in a table of vectors: what a row holds, and empty rows that are added.
pub mod RowLemmas
-- Lists of places that grow by what definitions list.
mod Listing
-- Cycles of ids and of the names at their places.
pub mod Cycles
-- Drafts of pairs from lists.
pub mod Drafts
-- What the definition of a name says, where each name has one.
pub mod Meanings
-- What names stand for, by the sets of bundles that reach one another.
pub mod Stands
-- Lists of sets, one for each bundle, as they are filled.
mod SetLists
-- How the first flaw of definitions is reported, and steps of what names stand for, need and feed.
mod Leading
-- Compiled definitions have no cycle of services that need one another by name.
mod Rings
-- Databases of the same definitions are one.
mod One
-- Names that definitions give, definition by definition.
mod Givens
-- Names that go into a list, list by list.
mod Mentioned
-- Pairs that go into a draft, list by list.
mod Needing
-- What is defined of a name, where each name is that of one meaning.
mod Defined
-- The tables show of an entry what it has.
mod Shown
-- Names that two definitions give to bundles.
mod Sharing
-- What is looked up by lists of places.
mod Looking
-- Needs of places are those of names.
mod NeedsByName
-- What holds of each name that a loop has passed.
mod Passing
-- What is left where no flaw stands before another.
mod Stages
-- The least of names, place by place.
mod Lowest
-- What definitions without flaws in their pipes are.
mod Bridges
-- Tables of bundles that are filled name by name.
mod Tabled
-- Services by the places of their names.
mod Placing
-- The parts that definitions give fit together, and make the database of the definitions.
mod Fitting
