-- The numbers of milliseconds among the words, that of a state, and that of a generation.
use Rattle.std.specs.Prelude.{◌≡◌, ◌<◌, ◌^◌, ℕ, Bool, false, Option, None, Some, IsSome}
use Rattle.std.specs.Str.Parse.{IsNumeral, digits_value, without_leading_plus}
use Rattle.clap.specs.Words.{Text}

-- the text of a number of milliseconds: digits, before which a plus may stand
abbrev pub SpellsLimit : Text → ℕ → Type 0
SpellsLimit text limit = IsNumeral 10 (without_leading_plus text)
    × (limit ≡ digits_value 10 (without_leading_plus text)) × (limit < 2 ^ 32)

-- the limit that is given, and 0, which is none, where none is
abbrev pub IsLimitIn : Option Text → ℕ → Type 0
IsLimitIn None limit = limit ≡ 0
IsLimitIn (Some text) limit = SpellsLimit text limit

-- the limit of a run that is given, and the greatest that there is where none is, so that the run
-- can be called off
abbrev pub IsRunLimitIn : Option Text → ℕ → Type 0
IsRunLimitIn None limit = limit ≡ 4294967295
IsRunLimitIn (Some text) limit = SpellsLimit text limit

-- the state that is given, if one is: a number, which is spelled as one of milliseconds, where what
-- would move is not only to be shown
abbrev pub IsStateIn : Option Text → (dry : Bool) → Option ℕ → Type 0
IsStateIn None dry to = to ≡ None
IsStateIn (Some text) dry to =
    (dry ≡ false) × ((state : ℕ) × SpellsLimit text state × (to ≡ Some state))

-- the generation that is given, if one is: a number, which is spelled as one of milliseconds, where
-- the file that holds it is given, too
abbrev pub IsGenerationIn : Option Text → (live : Option Text) → Option ℕ → Type 0
IsGenerationIn None live generation = generation ≡ None
IsGenerationIn (Some text) live generation =
    IsSome live × ((place : ℕ) × SpellsLimit text place × (generation ≡ Some place))
