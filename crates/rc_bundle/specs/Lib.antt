-- The definitions of rc_bundle, in reading order.

-- Two tables that are walked side by side: the next name, and whether its sets differ.
pub mod Walk
-- An edit that leads to a table with a given property.
pub mod Bundling
