-- The definitions of rc_board, in reading order.

-- Events that workers made with a gate: who made each, what the gate may have said, and whether it
-- may have given a moment before the deadline.
pub mod Made
-- What a worker writes down: its pad.
pub mod Pads
-- What a worker writes down for the answer of a gate, and for what it is told when it asks for a
-- job.
pub mod Asking
-- How many workers there may be: 1 to 64.
pub mod Crew
-- Why the run of a course is not made.
pub mod Halting
-- The events on the board are an interleaving of those on the workers' pads.
pub mod Interleaving
-- How far the pads are read.
pub mod Reading
-- What can be seen of a run: its events, where each service stands, and the room for more.
pub mod Sight
-- What the time of a gate is to a deadline.
pub mod Timing
-- What workers make of a command: a run that carries it out, or the first fault.
pub mod Working
