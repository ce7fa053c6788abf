-- The lemmas of rc_board, in reading order.

-- What workers make, as events that a gate may say.
mod Making
-- A run that workers made completes its command; why one that was begun is not made.
mod Carrying
-- A run has at most two events for each service that moves, and one stop.
mod Lasting
-- How many services of a course move, and that a run fits into the room counted for it.
mod Counting
-- What joined pads make, with a gate that says what they tell.
mod Joining
-- Pads that are read one event after the other.
mod Placing
-- What the time of a gate tells of a take, and of a stop.
mod Timing
-- What a worker says of its gate as it writes more down.
mod Saying
