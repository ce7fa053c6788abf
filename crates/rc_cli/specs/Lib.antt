-- The definitions of rc_cli, in reading order.

-- What the program decides of the files and of the messages of a session.
pub mod Deciding
-- Where a session begins, and what its file holds in the end.
pub mod Filing
-- Transitions that are named on the command line, found among the names of a database.
pub mod Finding
-- The gate by which the transitions of a session are made.
pub mod Gating
-- How the lines of a session are served.
pub mod Serving
-- The lines of a command of several steps, such as an update or a restart.
pub mod Steps
-- What is shown of a session in one line, besides what a session line shows.
pub mod Showing
-- What one line comes to, as a command of its own, and where it has no answer.
pub mod Once
-- Which texts are put into the store of a session, and in which order.
pub mod Putting
-- The two steps of a restart: both by one session.
pub mod Restarting
-- What a session is launched for, and what it comes to.
pub mod Services
-- What keeps the text of a session.
pub mod Storing
-- What a session of the program is, and what goes through its devices.
pub mod Session
-- The two steps of an update: one by the old database, and one by the new.
pub mod Updating
-- A command that would move a longrun which no program controls.
pub mod Controlled
-- When a session is refused or fails, and how it tells that.
pub mod SessionFaults
-- What a session comes to that is launched, with its status and what is told.
pub mod Launching
-- Why a command has no answer: the words that are printed for each fault, and its exit status.
pub mod Faults
-- Words that are to be names of services, and what refuses them.
pub mod Named
-- What `plan` writes: the plan in a database where the given services are up.
pub mod PlanText
-- When `plan` is refused.
pub mod PlanFaults
-- The faults of a query of a database, as those of a command.
pub mod DbFaults
-- What is printed for a question, and when it is refused.
pub mod DbAnswer
-- What a script comes to.
pub mod Played
-- What `replay` prints, and when it refuses.
pub mod Replay
-- Queries: what each answers and when it is refused, and what is read and printed for all of them.
pub mod Queries
-- When an update is refused or fails.
pub mod UpdateEnds
-- The run log of the first step of an update.
pub mod Begun
-- What `seal` makes of a session: a line of its current state alone.
pub mod Sealing
-- The failures that are remembered, and what is shown of them.
pub mod Failures
-- Since when services are where they are.
pub mod Since
-- Where services stand, as `status` prints it.
pub mod Status
-- Whether services are where a session says, as `check` prints it.
pub mod Checking
-- What was found up and is not live is brought down.
pub mod Straying
