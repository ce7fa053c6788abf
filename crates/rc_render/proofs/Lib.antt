-- The lemmas of rc_render, in reading order.

-- Lines of names, name by name.
pub mod LineLemmas
-- The names of a set, service by service, and texts that grow by a name or a comma.
mod NameLemmas
-- The journal's text, piece by piece: signs of services, members of bundles, lines of entries.
mod JournalLemmas
-- Services by their places, and what one of them is drawn by.
mod DotLemmas
