-- The lemmas of rc_livetext, in reading order.

-- The words of a line tell which line it is.
mod LineWords
-- Lines that stand on the same bytes are one, up to the last one of a text.
mod ManyLines
-- The lines of a live text tell which text it is.
mod Structure
-- Texts that stand on the same bytes are one, and reading is stuck at one place.
mod OneText
-- The lines of a text are those that may follow one another; so where no line that may follow
-- stands, reading is stuck.
mod Follows
-- What was read of a text is the prefix of one, and grows line by line.
mod PartLemmas
-- One bundle more of a state.
mod Adding
-- Lines that do not stand here.
mod Missing
-- What refuses the head of a text.
mod Heading
-- States one after another, and what may stand after them.
mod StateLines
-- A text from its parts, and what refuses its states.
mod Whole
-- Lines of a database as live texts: each is one, and of one text there is one line.
mod Texts
-- What refuses bytes is one, out of memory aside.
mod OneFault
-- Services that a set has, and their names.
mod Naming
-- The text of a line is refused as out of memory alone.
mod Lawful
-- Parts that are written one by one.
mod LineLemmas
-- The text grows state by state.
mod Writing
-- States and their texts, side by side.
mod Pairs
-- What the states of a text make of it: a line, or a refusal.
mod Joined
-- What states name, as it is looked up.
mod Knowing
-- What was read of bytes, as a line and as a refusal.
mod Reading
-- What is left behind lines is shorter.
mod Rests
-- What a line is made of, by what is known of the states of a text.
mod Makings
