-- The lemmas of rc_script, in reading order.

-- Numbers among the words of a line.
mod Digits
-- Numbers and words of event lines.
mod EventWords
-- The choices in front of words, option by option.
mod Fronts
-- Lines with their newline.
mod Lined
-- What words say, by the verb.
mod Sayings
-- A script gives one list of commands.
mod OneScript
-- The place of a name among names in byte order.
mod Places
-- Words as texts, and words from a place on.
mod Texts
-- Scripts, line by line.
mod Reading
