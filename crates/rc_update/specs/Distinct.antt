-- Whether two conversions share an old name, or a new one.
use Rattle.std.specs.Prelude.{◌≡◌, ◌⊎◌, ◌++◌, ◌∷◌, ℕ, Bool, List, [], Option, None, Some, false}
use Rattle.std.specs.Prelude.{true}
use Rattle.rc_update.specs.Conversions.{Conversion, conversion_for, is_taken}

-- whether a conversion has this old name
abbrev pub is_some_one : Option Conversion → Bool
is_some_one None = false
is_some_one (Some conversion) = true

abbrev pub is_converted : List Conversion → List ℕ → Bool
is_converted list name = is_some_one (conversion_for list name)

-- a conversion shares no name with those before
abbrev pub IsNovel : List Conversion → Conversion → Type 0
IsNovel before one =
    (is_converted before one.old ≡ false) × (is_taken before one.new ≡ false)

-- the name that it shares with one of them, the old name before the new one
abbrev pub IsTwiceIn : List Conversion → Conversion → List ℕ → Type 0
IsTwiceIn before one name =
    ((is_converted before one.old ≡ true) × (name ≡ one.old))
    ⊎ ((is_converted before one.old ≡ false) × (is_taken before one.new ≡ true)
    × (name ≡ one.new))

-- behind those before, none shares a name with an earlier one
abbrev pub AreDistinctBehind : (before list : List Conversion) → Type 0
AreDistinctBehind before [] = Unit {0}
AreDistinctBehind before (first ∷ more) =
    IsNovel before first × AreDistinctBehind (before ++ first ∷ []) more

abbrev pub AreDistinct : List Conversion → Type 0
AreDistinct list = AreDistinctBehind [] list

-- behind those before, the first name that is shared
abbrev pub IsTwiceBehind : (before list : List Conversion) → List ℕ → Type 0
IsTwiceBehind before [] name = ⊥
IsTwiceBehind before (first ∷ more) name = IsTwiceIn before first name
    ⊎ (IsNovel before first × IsTwiceBehind (before ++ first ∷ []) more name)

abbrev pub IsFirstTwice : List Conversion → List ℕ → Type 0
IsFirstTwice list name = IsTwiceBehind [] list name
