-- The lemmas of rc_dbtext, in reading order.

-- Numbers in decimal, and what stands for one.
pub mod Numbers
-- Lines of words: bytes begin with the words of one line.
pub mod LineWords
-- Words that are plain.
pub mod Plain
-- Words that are UTF-8.
pub mod Texts
-- Lines of a word and a number.
pub mod NumberWords
-- Reading is stuck at one place.
pub mod Stuck
-- Words taken from a line, one by one.
mod Taking
-- Lines of words that are UTF-8 are UTF-8.
mod TextLines
-- Forms, which are values with their lines: what is read, and where reading is stuck, in a form
-- made of two others or of many.
mod Sequences
-- Lines of words with what stands after them: bytes begin with one such line.
mod WordLines
-- Where a text of known length stands in front of others, it is one.
mod Cutting
-- What is read of a line, and what refuses it, from its words.
mod LineReads
-- The kinds of lines: the words of each are UTF-8.
mod LineTexts
-- The kinds of lines: the words of each are words, and each is read once.
mod KindLines
-- The first line and the counts: a word and a number.
mod NumberLines
-- The grammar of a database text: which forms are made of which.
mod Grammar
-- Lines of as many of one value as of another, where they stand on the same bytes: what follows
-- them is one rest, before lines of one kind.
mod Aligned
-- Reading is stuck at one place, so what refuses bytes is one.
mod OneRefusal
-- Names at places, and places of names.
pub mod Naming
-- What a draft has after the needs of some services were added.
mod Drafting
-- Two lists side by side.
mod Zips
-- The parts that a text gives fit together, and give the text back.
mod Joining
-- Sets and their members, and a table that a bundle is added to.
pub mod Bundling
-- What was found of neighbours says whether names ascend.
mod Sorting
-- What the text of a database says: it can be spelled, ascends, is complete and has no cycle.
pub mod Spelled
-- What was read of bytes, as a database and as a refusal.
mod Reading
-- When a text is complete, said of its services and of its bundles.
mod Completing
-- No text of a database is refused, and each is that of one database.
mod Lawful
-- What is written word by word is the line.
pub mod LineLemmas
-- A text is that of one database: places and sets are known by the names of their services.
pub mod Unique
-- What is written part by part is the text.
mod Writing
-- What refuses bytes is one, out of memory aside.
mod OneFault
-- A text that begins an input, and what is after it.
mod FrontLemmas
-- A database with its input, and a refused text as why there is none.
pub mod OpeningLemmas
