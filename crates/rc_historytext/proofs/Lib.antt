-- The lemmas of rc_historytext, in reading order.

-- The words of a line are words and UTF-8.
mod LineWords
-- Where a line is due and others stand, or none.
mod Missing
-- A line that is due is read once, and lines that are due are.
mod Once
-- Lines that are due, in parts, and those of a history.
mod Rows
-- What follows from each place on, and a history that has it.
mod Rests
-- Where a line is missing, reading is stuck.
mod Stopping
-- What was read of bytes.
mod Reading
-- The lines of a history tell which one it is.
mod Structure
-- What refuses bytes is one, and refuses no text.
mod OneFault
-- What is written line by line is the text.
mod Writing
-- Texts that tell generations, in parts.
mod TellingLemmas
-- What is done on the text is done in the history that it tells.
mod Moving
-- Each move leaves what has a text.
pub mod Kept
-- What calls make of the generations.
mod Changed
-- The texts of a generation stand in the text of a history.
mod Standings
-- The lines of a session, as they are written.
mod SessionLines
-- The present generation of a history is one.
pub mod Presents
-- Why calls fail, put together from what the calls below them say.
mod Failing
-- The marks of the present generation, once it is left or its state is a stop.
mod Marked
-- Generations of a history: lists of them, what the text at a place tells, and a border.
mod TravelledTexts
-- The mark of a place, and the marks beside another line of the same states.
mod TravelledMarks
-- A line and the next one, as their texts have them.
pub mod TravelledLines
-- One step of an undo or a redo on the text of a history is one in the history that it gives.
mod TravelledSteps
-- Where an undo and a redo stop, and several steps in a row.
mod TravelledStops
-- What an undo or a redo leaves that does not go well: whole steps, and then what remains of one
-- more.
mod HaltedSteps
-- The conversions that the text of a history says of an update.
mod UpdatedNames
-- What is live after the first half of an update, and that it goes on unaltered.
mod UpdatedHalves
-- A line after a change that moved something, as its text has it, and the marks of a step.
pub mod UpdatedLines
-- The generations of a text after the moves of an update, and their marks.
pub mod UpdatedTexts
-- A step of an update that is kept in the text of a history is one in the history that it gives.
mod UpdatedSteps
-- A database that an update enters on the text of a history is entered in the history.
mod UpdatedBorders
-- The halves of an update on the text of a history, and its end.
mod UpdatedEnds
-- An update on the text of a history is one of the history that it gives.
mod UpdatedWhole
-- A history that begins gives one generation, and so many places are added by an update.
pub mod UpdatedBegins
