-- Numbers in event lines.
use Rattle.std.specs.Prelude.{◌==◌, ◌||◌, ◌&&◌, ◌^◌, codes, not, ℕ, Bool, List, Option, None, Some}
use Rattle.std.specs.Prelude.{length, slice_index, nat_lt, if◌then◌else◌}
use Rattle.std.specs.Str.{bytes_eq}
use Rattle.std.specs.Str.Parse.{digits_value}
use Rattle.rc_script.specs.Words.{is_digits}

-- digits with no zero in front of others
abbrev pub is_plain : List ℕ → Bool
is_plain word = is_digits word && (nat_lt (length word) 2 || not (slice_index word 0 == 48))

-- the number of so many bits that a word gives
abbrev pub number_in : (bits : ℕ) → List ℕ → Option ℕ
number_in bits word = if is_plain word && nat_lt (digits_value 10 word) (2 ^ bits)
    then Some (digits_value 10 word) else None

-- the status that a word gives, which is not 0
abbrev pub status_in : List ℕ → Option ℕ
status_in word = if bytes_eq word (codes "0") then None else number_in 8 word
