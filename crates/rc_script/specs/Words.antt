-- The words of a session line, and numbers among them.
use Rattle.std.specs.Prelude.{◌==◌, ◌||◌, ◌&&◌, ◌^◌, ℕ, Bool, true, List, [], ◌∷◌, Option, None}
use Rattle.std.specs.Prelude.{Some, length, filter, slice_index, nat_lt, if◌then◌else◌}
use Rattle.std.specs.List.{slice_split}
use Rattle.std.specs.Str.{all_ascii_digits}
use Rattle.std.specs.Str.Parse.{digits_value}

-- a space or a tab
abbrev pub is_blank : ℕ → Bool
is_blank byte = (byte == 32) || (byte == 9)

-- the words of a line: what stands between its spaces and tabs
abbrev pub words_in : List ℕ → List (List ℕ)
words_in line = filter (λ word. nat_lt 0 (length word)) (slice_split is_blank line)

-- a line without words, or a comment, whose first word begins with `#`
abbrev pub is_silent : List (List ℕ) → Bool
is_silent [] = true
is_silent (word ∷ words) = slice_index word 0 == 35

-- one digit or more
abbrev pub is_digits : List ℕ → Bool
is_digits word = nat_lt 0 (length word) && all_ascii_digits word

-- the limit that a word gives: at most 10 digits, leading zeros among them, and a number of 32 bits
abbrev pub limit_of : List ℕ → Option ℕ
limit_of word = if is_digits word && nat_lt (length word) 11
    && nat_lt (digits_value 10 word) (2 ^ 32) then Some (digits_value 10 word) else None
