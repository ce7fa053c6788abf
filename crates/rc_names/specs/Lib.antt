-- The definitions of rc_names, in reading order.

-- Why a text is no name: the first fault in order.
pub mod Name
-- Lists of names in byte order: what they list, what is added, and where a missing name would
-- stand.
pub mod Names
