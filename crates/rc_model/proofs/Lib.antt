-- The lemmas of rc_model, in reading order.

-- Members of lists: head by head, and by their places.
pub mod Members
-- Names in byte order: no name stands before itself, each stands at one place, and lists of the
-- same names are one.
pub mod ByteOrder
-- A test passes or it fails.
pub mod Tests
-- A result that is an error has no value.
pub mod Results
-- The closures of fewer members are smaller.
pub mod Closures
-- A set that gains members leaves fewer out.
pub mod Counting
-- What events contain after one more of them.
pub mod EventLemmas
-- A set has a service or lacks it, and has none beyond its bound.
pub mod SetMembers
-- Sets of one bound with the same members are equal, and a set that is copied id by id.
pub mod SetLemmas
-- Tables of bundles with the same values are equal.
pub mod Tables
-- An entry leads from a state to only one state, and an edit to only one table.
pub mod Exact
-- Lists that are joined: what holds of their parts, and where they are cut.
pub mod Lists
-- Lines of states and where they are cut: the same states with the cursor elsewhere, fronts and
-- backs.
pub mod Lines
-- What fitting a line to its bound leaves of it.
pub mod Fitting
-- Lists that are mapped, up to one place.
pub mod Mapped
-- Lists by their places.
pub mod Places
-- Runs and their prefixes, induction over a run, and what was taken or ended in it.
pub mod RunLemmas
-- A set that loses a member has fewer.
pub mod RunMembers
-- Where a service stands after one more event.
pub mod StandingLemmas
-- Where services stand before the first event.
pub mod Standings
-- From a closed opening, every run has at each moment all that its live services need.
pub mod StrictLemmas
-- What a report tells of a run, from what the run has come to.
pub mod Telling
-- Byte order of names.
pub mod Texts
-- An edit turned round, and the names that it alters.
pub mod Turning
-- Lines stay lines when the cursor moves, when a state is put in, and at an undo or redo.
pub mod Walking
-- What byte order gives: texts that each stand before the next are in order.
pub mod WordOrders
