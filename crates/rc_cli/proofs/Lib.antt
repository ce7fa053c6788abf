-- The lemmas of rc_cli, in reading order.

-- Transitions whose services are found.
mod Found
-- How a session of the program ends.
pub mod SessionLemmas
-- How a session that is launched ends.
pub mod LaunchLemmas
-- How the lines of a session are served, and how that is kept.
mod ServingLemmas
-- How one line is served.
mod OnceLemmas
-- A command that runs for what is asked, as it runs for the words that ask it.
mod RunLemmas
-- Words that name services, one by one.
mod NamedLemmas
-- What queries find are services.
mod DbLemmas
-- What is so of a database with its input, and where there is none.
mod OpenedLemmas
-- What a query comes to, and what is printed for it.
mod QueryLemmas
-- Answers, one after the other.
mod Telling
-- How the two steps of an update are served, and how it ends.
mod UpdateLemmas
-- Which texts one line puts into a store, and which the two steps of an update.
mod PuttingLemmas
-- How the steps of a restart lead a store, and how a session that is launched does.
mod LeadingLemmas
-- What the steps of an update move.
mod SparingLemmas
-- What an update moves, where the old database and what is live are known by other names.
mod MovingLemmas
-- The first line of a log, and that there is no other.
pub mod BegunLemmas
-- Where the undo of a restart leads.
mod RestartLemmas
-- What the first step of a restart leaves, and the plans of both.
mod ShowingLemmas
-- The failures that are remembered.
mod FailureLemmas
-- Where services stand, and how that is printed.
mod StatusLemmas
-- Whether services are where a session says.
mod CheckingLemmas
-- Strays are brought down.
mod StrayingLemmas
-- What a command would move, and that there is no other.
mod ControlledLemmas
