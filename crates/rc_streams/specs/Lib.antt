-- The definitions of rc_streams, in reading order.

-- When a call of a device counts as its failure.
pub mod Noting
-- What goes through a reader and a writer.
pub mod Exchange
-- What is taken from a reader, and what a writer gets.
pub mod Input
-- What is taken from a reader, line by line.
pub mod Taking
-- With what a program inherits it can't run scripts.
pub mod Inheriting
-- The last lines of a text.
pub mod LastLines
