-- The definitions of rc_launch, in reading order.

-- What is asked of the file of a session, and what is read for it.
pub mod Loading
-- What a recovery makes of the two files of a session, by the text of a database.
pub mod Recovering
-- What a run log says of the text that stands in the file of its session.
pub mod Logs
-- What the two files of a session hold since they were read, and what a crash may have left of
-- them since.
pub mod Held
-- What the command of a run log has done to the states of the session.
pub mod Keeping
-- What recoveries make of a history and of the run log beside it.
pub mod HistoryRecoveries
-- A crash of a run on the present session of a history.
pub mod HistoryCrashes
-- The writes of an update, and what one undo restores after a crash within them.
pub mod UpdateCrashes
-- The writes of an undo or a redo on a history, and what a crash within them leaves.
pub mod WayCrashes
-- What a controller says of the transitions that were under way when a command was cut short.
pub mod Asking
-- What came of a run log beside the file of a session that is locked.
pub mod Recovered
-- What is found beside the file of a session, and that its runs are logged.
pub mod Beside
-- The files of a command are opened.
pub mod Opening
-- The history that the store of a session holds.
pub mod HeldHistory
-- The history in which a command keeps its session.
pub mod Frames
-- What a text that is put into the store of a session makes of its history.
pub mod Putting
-- How the store of a command keeps what comes next.
pub mod Manners
-- What an undo or a redo of a history leaves of its text that ends with status 1 or 2.
pub mod Halted
-- The numbers of the states of a history.
pub mod Numbers
-- The journal of a history: the states of all its generations, and the borders between them.
pub mod HistoryJournal
-- An undo that goes back to a state of the journal, by one undo after the other.
pub mod Back
-- What an update and a restart make of a history: both first take back what was cut short.
pub mod TwoSteps
-- What an update makes of a file that held no history: it begins one.
pub mod Anew
-- An undo or a redo is asked for, and led so.
pub mod Ways
-- What a check has repaired of what it found, and its status.
pub mod Mending
-- A command is carried out as on a session that is kept alone.
pub mod Alone
-- What a command comes to on what was read for it.
pub mod Serving
-- The texts of a session and of its database are read.
pub mod Readable
