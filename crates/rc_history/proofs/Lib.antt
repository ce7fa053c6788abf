-- The lemmas of rc_history, in reading order.

-- Lists of any type.
mod Lists
-- A border that is crossed leaves the generations as they are.
pub mod Crossing
-- The first and the last state of a line, and of the next one.
pub mod Ends
-- A step that goes well leads to the place before, or to the one after.
mod Stepping
-- As many steps that go well restore a place.
mod Restoring
-- Where generations are joined, their fronts and backs are.
mod Joining
-- A command inside a generation leaves a history.
mod Inside
-- Several steps in a row.
mod Rows
-- Where there is a place before or after the current one, a step can go well.
mod Possible
-- What a step that does not go well leaves.
mod Failing
-- No service moves at a border.
mod Borders
-- An update enters its database behind the place where the history stood.
mod Entering
-- The first half of an update leaves what goes on unaltered.
mod Halves
-- A service goes on unaltered in another database, or it does not.
mod Unaltered
-- A history without its oldest generation, or without the later ones, is one.
mod Dropping
-- An update is taken back by one, two or three steps.
mod TakingBack
-- A session by itself is a history.
mod Beginning
-- An undo and a redo that go well stand on the nearest stop.
mod Stopping
