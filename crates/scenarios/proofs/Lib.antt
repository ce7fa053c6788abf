-- The lemmas of scenarios.

-- Courses of the same needs, plan and deadline are equal.
mod Shown
