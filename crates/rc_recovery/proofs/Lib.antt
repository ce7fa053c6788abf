-- The lemmas of rc_recovery, in reading order.

-- A logged run that was cut short, with an end added for each transition that has none, is settled.
mod Ending
-- What a session answers to a command that was cut short.
mod Refused
-- A command whose run was cut short has no fault once its run is ended and stopped.
mod Refusing
-- Two neighbouring events of a run that two workers made change places.
mod Swaps
-- A run stays one where its events are logged in another order.
mod Reordering
-- The events of a run without its stop.
mod Unstopped
-- What is said of the one command of a list holds of the list.
mod Single
-- Bytes, lines and their fronts.
pub mod Bytes
-- What the laws of the crates below say, for the proofs of this one.
mod Known
-- What the script of a run log says.
mod Reading
-- Events that begin a run of a command begin one of it under the least limit.
mod Cut
-- What a session makes of a command that was cut short.
mod Entered
-- Files of which nothing is entered.
mod Resting
-- Files that hold the log of a command.
mod Held
-- What a crash of a command leaves.
mod Crashing
-- Two runs of a command after which the same is live lead to one line.
mod Alike
-- A crash of a small machine: the undo of a change that lowered its one service.
mod Possible
-- What a recovery over the two files has done.
mod Files
-- What workers log of a run begins one.
mod Order
-- An end that is appended to the log of a command that was cut short.
mod Found
