-- The definitions of rc_dbtext, in reading order.

-- Lines of words with one space between them, and numbers among the words.
pub mod Words
-- Forms: values with their lines, and what of a value stands at the beginning of bytes.
pub mod Form
-- The text of a database: what it gives, its lines and their bytes, and what may be spelled.
pub mod Text
-- Values that are read line by line: where reading succeeds, where it is stuck, and what refuses
-- it.
pub mod Reading
-- Values that are read from the words of one line.
pub mod LineValues
-- What was read of the part of a service after its needs.
pub mod FormText
-- The text of a database: names in place of ids, and its bytes.
pub mod Spelling
-- Texts that mean a database: their names ascend, stand for what they may, and lead in no cycle.
pub mod Meaning
-- When bytes are refused as the text of a database, and by which fault.
pub mod TextFaults
-- Parts of a text against names that are known, and a service against its text.
pub mod Parts
-- The lines of a database in two parts: those of its services and those of its bundles.
pub mod Lines
-- Where the database stands, and what is after it.
pub mod Base
-- A base and an input: the base comes first.
pub mod Opening
-- How a fault of a database text is told.
pub mod TextFaultWord
