-- The definitions of rc_historytext, in reading order.

-- The text of a history: what it gives, its lines and their bytes, and what may be spelled.
pub mod Text
-- When bytes are refused that are to be the text of a history.
pub mod Faults
-- Where the texts of the present generation stand in the text of a history.
pub mod Offsets
-- How a fault of the text of a history is told.
pub mod HistoryFaultWord
-- The moves of a history, on what its text gives.
pub mod Moves
-- What the session of a generation says, by names.
pub mod States
-- The present generation of a history, and where it stands; the database of any generation.
pub mod Present
-- The marks of the ends of the present generation after a command, and which ends are still there.
pub mod Marking
-- What a command makes of the text of a history.
pub mod Keeping
-- A history in which a session is kept.
pub mod Framing
-- What an update makes of the text of a history, step by step.
pub mod Updating
-- Why the calls that say where a history stands, or that make its text, fail.
pub mod CallFaults
-- Which history a text tells.
pub mod Telling
-- The steps of an undo or a redo that leads across borders.
pub mod Travelling
-- What an undo or a redo leaves of the text of a history that does not go well.
pub mod Halting
-- Which history the bytes of a text give, with a mark for each of its places.
pub mod Places
-- An update on the text of a history, from where it begins to its end.
pub mod Updates
-- Which line is due where, for reading alone: that it is what the texts say is a lemma.
pub mod Due
-- What stands in front of bytes, a line or none, for reading alone.
pub mod Standing
