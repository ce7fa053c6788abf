-- The definitions of rc_script, in reading order.

-- The words of a session line, and numbers among them.
pub mod Words
-- The options in front of the word that says what a line does.
pub mod Options
-- What a session line says.
pub mod Says
-- Numbers in event lines.
pub mod Numbers
-- Event lines.
pub mod Events
-- A script: commands, each with its events, line by line.
pub mod Script
-- The lines of a run log: a step, and the events of its run.
pub mod RunLines
-- The comments of a run log that name the program of a transition.
pub mod Processes
