-- The definitions of rc_select, in reading order.

-- The sets of a plan, as they fit each other.
pub mod PlanSets
-- What a request asks, and the options that say so.
pub mod Ask
-- Why the wanted services of a plan are not found.
pub mod PlanFaults
-- What a plan aims at and what it keeps up, as two sets.
pub mod Sides
