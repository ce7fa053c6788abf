-- The definitions of rc_livetext, in reading order.

-- The text of a session: what it gives, its lines and their bytes, and what may be spelled.
pub mod Text
-- When the form of a session's text is refused, and where reading is stuck.
pub mod Refusals
-- Which line may follow which, for reading alone: that it is what the texts say is a lemma.
pub mod Following
-- What each line may say, and what its words are.
pub mod Saying
-- What a line that was read says.
pub mod FormText
-- What was read of a text, and what refuses the next line, for reading alone.
pub mod Held
-- The text of a line of states, in the form of now and in the older one.
pub mod Spelling
-- What a live text says of a database.
pub mod Meaning
-- When bytes are refused that are to be a live text.
pub mod LiveFaults
-- What the states of a text make, for reading alone.
pub mod Parts
-- The bytes of states in the order in which they are written.
pub mod Written
-- How a fault of the text of a session is told.
pub mod LiveFaultWord
