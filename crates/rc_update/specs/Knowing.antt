-- Whether conversions name services of both databases.
use Rattle.std.specs.Prelude.{◌≡◌, ◌⊎◌, ℕ, List, [], ◌∷◌, Contains}
use Rattle.rc_update.specs.Conversions.{Conversion}

-- the old name is one of the old database, and the new name one of the new
abbrev pub IsKnownIn : (old new : List (List ℕ)) → Conversion → Type 0
IsKnownIn old new conversion = Contains old conversion.old × Contains new conversion.new

-- all are such
abbrev pub AreKnown : (old new : List (List ℕ)) → List Conversion → Type 0
AreKnown old new [] = Unit {0}
AreKnown old new (first ∷ more) = IsKnownIn old new first × AreKnown old new more

-- the name of a conversion that its database lacks, the old name before the new one
abbrev pub IsStranger : (old new : List (List ℕ)) → Conversion → List ℕ → Type 0
IsStranger old new conversion name =
    ((Contains old conversion.old → ⊥) × (name ≡ conversion.old))
    ⊎ (Contains old conversion.old × (Contains new conversion.new → ⊥)
    × (name ≡ conversion.new))

-- the first such name
abbrev pub IsFirstStranger : (old new : List (List ℕ)) → List Conversion → List ℕ → Type 0
IsFirstStranger old new [] name = ⊥
IsFirstStranger old new (first ∷ more) name = IsStranger old new first name
    ⊎ (IsKnownIn old new first × IsFirstStranger old new more name)
