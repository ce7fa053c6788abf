-- Lines of words with one space between them, and numbers among the words.
use Rattle.std.specs.Prelude.{◌≡◌, ◌≢◌, ◌<◌, ◌≤◌, ◌==◌, ℕ, List, [], ◌∷◌, ◌++◌, length, All}
use Rattle.std.specs.Prelude.{slice_index}
use Rattle.std.specs.Prelude.{Option, None, Some}
use Rattle.std.specs.List.{join_with_byte, slice_split}

-- words with one space between them, and a newline
abbrev pub line_of_words : List (List ℕ) → List ℕ
line_of_words words = join_with_byte 32 words ++ 10 ∷ []

-- no space and no newline
abbrev pub IsPlain : List ℕ → Type 0
IsPlain word = All (λ byte. (byte ≢ 32) × (byte ≢ 10)) word

-- words of a line
pub record ArePlain (words : List (List ℕ)) : Type 0 where
  pub some : 0 < length words
  pub each : All IsPlain words

-- the words of the line that is left, where there is one
abbrev pub words_left : Option (List ℕ) → List (List ℕ)
words_left None = []
words_left (Some line) = slice_split (λ byte. byte == 32) line

-- the words of a line stand in front of the rest
abbrev pub BeginsWith : List ℕ → List (List ℕ) → List ℕ → Type 0
BeginsWith bytes words rest = ArePlain words × (bytes ≡ line_of_words words ++ rest)

-- decimal digits without a sign and without leading zeros, as many as one likes
pub record IsNumber (digits : List ℕ) : Type 0 where
  pub some : 0 < length digits
  pub each : All (λ digit. (48 ≤ digit) × (digit ≤ 57)) digits
  pub plain : 1 < length digits → slice_index digits 0 ≢ 48

-- here stands a line of a word and a number, such a number
abbrev pub HasNumber : List ℕ → (List ℕ → Type 0) → List ℕ → Type 0
HasNumber word Such rest =
    (number : List ℕ) × (after : List ℕ)
    × IsNumber number × Such number × (rest ≡ line_of_words (word ∷ number ∷ []) ++ after)

-- a bundle as a text gives it
pub record BundleText : Type 0 where
  pub name : List ℕ
  pub members : List (List ℕ)
