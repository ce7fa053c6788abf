-- The lemmas of rc_launch, in reading order.

-- What was read is what a command is carried out on.
mod ServingLemmas
-- What comes of a run log that was read.
mod RecoveryLemmas
-- What holds of a write holds where its end was noted; and what was read is there.
mod Noting
-- An undo or a redo after which the services of the next state are live has come to that state.
mod NextStates
-- What an undo or a redo leaves that ends with status 1 or 2, step by step.
mod HaltLemmas
-- What is launched as an undo or a redo of one line is a run inside the present generation of a
-- history, or is refused.
mod TravelLemmas
-- The states of generations are counted, one generation after the other.
mod Counting
-- The lines of a journal: the end of the last one, and those of one generation more.
mod JournalLines
-- An undo that goes back to a state, undo by undo.
mod BackLemmas
-- A command is served alone by the history that its store was found to hold.
-- What is put into a store, one text after the other, as an update and a restart put theirs.
mod PuttingLemmas
-- Where all that was planned is done, what is live is the target.
mod Arriving
-- An update and a restart that are done keep their lines in the history of their store.
mod UpdateLemmas
-- What a check has repaired that ends with status 0.
mod MendLemmas
-- A command of several steps from where its history stands, once what was cut short is taken back.
mod StepLemmas
-- The texts of a session and of its database that were read.
mod ReadLemmas
-- The present generation of a history, and that of one in which a session was put.
mod PutTexts
-- What the head of a run log says: how its command has left the states of the session.
mod HeadSays
-- What recoveries of a history leave.
mod HistoryEnds
-- The writes of several steps, one after the other.
mod Writing
-- What a crash of a command on a history leaves.
mod HistoryCrashed
-- A change that moves nothing is always done.
mod StillChange
-- A line after a change that moved something, and the line before that.
mod GrownLines
-- One undo takes a change back that is kept in a history.
mod UndoneOnce
-- The present generation of a history that is given, and of one that an update has entered.
mod GivenPlaces
-- A crash within the writes of an update.
mod CrashedUpdates
-- A crash within the writes of an undo or a redo.
mod CrashedWays
