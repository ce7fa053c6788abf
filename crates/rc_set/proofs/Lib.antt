-- The lemmas of rc_set, in reading order.

-- Bits of words: which are set after one is written, and after words are joined or cleared.
mod Bits
-- How many bits of words are set, counted word by word.
mod Counts
-- The truth values of words are their bits, and sets with the same bits are equal.
mod Flags
-- A set whose words were lent and written over has what was written.
mod Writes
-- The ids of which a fact holds, listed one after the other up to a bound.
pub mod Listing
-- The bits of one word: its lowest, and what is left without it.
mod WordBits
-- The ids of one word, listed by taking its lowest bit until none is left.
mod WordIds
-- The next id of a set, by the lowest bit of a shifted word.
mod Nexts
-- A set that is filled with what it lacks, word by word.
mod Fillings
