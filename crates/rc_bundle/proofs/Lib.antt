-- The lemmas of rc_bundle, in reading order.

-- Bundles by their places in a table.
mod Places
-- A walk over two tables side by side.
mod Walking
-- Bundles that are defined and removed.
pub mod Changes
-- Words that are gone over from the first on.
mod GoneOver
