-- The lemmas of rc_streams, in reading order.

-- One step after another, of what is taken from a reader and of what a writer gets.
mod InputLemmas
-- One part after another, of what is handed out.
mod Handing
-- One read into a buffer, what it adds to what was taken, and how its failure is told.
mod Pieces
-- What goes after a line, of the piece that is held.
mod Parts
