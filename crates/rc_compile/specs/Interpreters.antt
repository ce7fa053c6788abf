-- The interpreter that a script names in its first line.
use Rattle.std.specs.Prelude.{◌==◌, ◌||◌, ◌&&◌, ℕ, Bool, List, ◌∷◌, Option, None, Some, drop}
use Rattle.std.specs.Prelude.{if◌then◌else◌}
use Rattle.std.specs.List.{before_first, prefix_len}

-- a space or a tab
abbrev pub is_blank : ℕ → Bool
is_blank byte = (byte == 32) || (byte == 9)

-- a blank, or the end of a line
abbrev pub ends_word : ℕ → Bool
ends_word byte = is_blank byte || (byte == 10)

-- behind `#!` and blanks, the bytes up to the next blank or the end of the line
abbrev pub interpreter_in : List ℕ → Option (List ℕ)
interpreter_in (hash ∷ bang ∷ line) = if (hash == 35) && (bang == 33)
    then Some (before_first ends_word (drop (prefix_len is_blank line) line)) else None
interpreter_in script = None
