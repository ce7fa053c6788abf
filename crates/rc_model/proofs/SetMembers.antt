-- A set has a service or lacks it, and has none beyond its bound.
use Rattle.std.proofs.Common.{◌≡◌, ◌≢◌, ℕ, ◌<◌, ◌⊎◌, inl, inr, List, [], ◌∷◌, Bool, true, false}
use Rattle.std.proofs.Common.{zero, suc, length, slice_index_or, refl, arith}
use Rattle.rc_model.specs.Names.{Has}

-- a flag is set or not
pub is_set_or_not : (flag : Bool) → (flag ≡ true) ⊎ (flag ≢ true)
is_set_or_not true = inl refl
is_set_or_not false = inr (λ e. let bad : false ≡ true = e in cc)

-- a set has a service or lacks it
pub has_or_lacks : (set : List Bool) (s : ℕ) → Has set s ⊎ (Has set s → ⊥)
has_or_lacks set s = is_set_or_not (slice_index_or set s false)

-- what a set has is below its bound
pub has_within : (set : List Bool) (s : ℕ) → Has set s → s < length set
has_within [] s has = let bad : false ≡ true = has in cc
has_within (flag ∷ set) zero has = omega arith
has_within (flag ∷ set) (suc s) has = let low : s < length set = has_within set s has in omega arith
