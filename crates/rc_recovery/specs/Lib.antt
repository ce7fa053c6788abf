-- The definitions of rc_recovery, in reading order.

-- The file of a session and its run log, and what a program that is killed can leave of them.
pub mod Files
-- What is made of the events of a run that was cut short.
pub mod Ends
-- How a command that was cut short is entered.
pub mod Recovering
-- The order in which several workers log their events.
pub mod Reordered
-- What a run log says, and what is entered of it.
pub mod RunLog
-- What a run log says of the command that is under way.
pub mod Logged
-- What a command logs and writes, and the files that hold its log.
pub mod Logging
-- What recoveries make of the two files, also where they are cut short, and where that ends.
pub mod Recoveries
-- What was under way when a command was cut short, and the ends that are logged of it.
pub mod UnderWay
