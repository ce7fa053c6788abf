-- What a file's text gives: a kind, a limit, a script, or names.
use Rattle.std.specs.Prelude.{◌≢◌, ◌<◌, ◌≤◌, ◌-◌, ◌||◌, ◌==◌, not, false, ℕ, Bool, List, [], ◌∷◌}
use Rattle.std.specs.Prelude.{length, map, filter, reverse, take, All, Option, Some, None, codes}
use Rattle.std.specs.Prelude.{slice_index, if◌then◌else◌}
use Rattle.std.specs.Str.{IsUtf8, bytes_eq}
use Rattle.std.specs.List.{slice_split}
use Rattle.std.specs.Str.Parse.{digits_value}
use Rattle.rc_model.specs.declared.Kind.{Kind}
use Rattle.rc_model.specs.declared.Kind.TheVariants.{Oneshot, Longrun, Bundle}

-- bytes that are text: UTF-8, none of them 0
abbrev pub IsText : List ℕ → Type 0
IsText bytes = IsUtf8 bytes × All (λ byte. byte ≢ 0) bytes

-- a text that a service may have
pub record IsScriptText (text : List ℕ) : Type 0 where
  pub short : length text ≤ 65536
  pub is_text : IsText text

-- a text without the newline at its end, if it has one
abbrev pub without_newline : List ℕ → List ℕ
without_newline text =
    if slice_index text (length text - 1) == 10 then take (length text - 1) text else text

-- the kind that a word names
abbrev pub kind_of_word : List ℕ → Option Kind
kind_of_word word =
    if bytes_eq word (codes "oneshot") then Some Oneshot
    else if bytes_eq word (codes "longrun") then Some Longrun
    else if bytes_eq word (codes "bundle") then Some Bundle
    else None

-- 1 to 10 digits of a number of 32 bits
pub record IsLimit (digits : List ℕ) : Type 0 where
  pub some : 0 < length digits
  pub few : length digits ≤ 10
  pub each : All (λ digit. (48 ≤ digit) × (digit ≤ 57)) digits
  pub fits : digits_value 10 digits ≤ 4294967295

-- a line without the spaces and tabs at its start
abbrev pub without_blanks : List ℕ → List ℕ
without_blanks [] = []
without_blanks (byte ∷ rest) =
    if (byte == 32) || (byte == 9) then without_blanks rest else byte ∷ rest

-- a line without the spaces and tabs at both its ends
abbrev pub trimmed_line : List ℕ → List ℕ
trimmed_line line = reverse (without_blanks (reverse (without_blanks line)))

-- a line that is neither empty nor a comment
abbrev pub counts : List ℕ → Bool
counts [] = false
counts (byte ∷ rest) = not (byte == 35)

-- the names that a text gives, one a line
abbrev pub names_in : List ℕ → List (List ℕ)
names_in text = filter counts (map trimmed_line (slice_split (λ byte. byte == 10) text))
