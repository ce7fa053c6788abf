-- The definitions of rc_history, in reading order.

-- A history: generations, their places, and the borders between them.
pub mod History
-- The moves of a history: a command inside a generation, a border, and the step of an update that
-- makes one.
pub mod Moves
-- What holds of a history and of its moves.
pub mod Promises
-- Where an undo and a redo stop.
pub mod Stops
