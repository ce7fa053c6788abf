-- Sets of one bound with the same members are equal, and a set that is copied id by id.
use Rattle.std.proofs.Common.{◌≡◌, ℕ, ◌<◌, ◌≤◌, ◌↔◌, List, [], ◌∷◌, Bool, true, false, zero, suc}
use Rattle.std.proofs.Common.{length, inl, inr, arith, refl, sym}
use Rattle.std.proofs.lemmas.Bool.{cases_lt}
use Rattle.rc_model.specs.Names.{Has}
use Rattle.rc_model.proofs.SetMembers.{has_within}

-- flags that are set together are one
pub same_flag : (a b : Bool) → ((a ≡ true) ↔ (b ≡ true)) → a ≡ b
same_flag true b h = sym (h.0 refl)
same_flag false true h = h.1 refl
same_flag false false h = refl

-- sets of one bound with the same members are one
pub same_set : (a b : List Bool) → length a ≡ length b → ((s : ℕ) → Has a s ↔ Has b s) → a ≡ b
same_set [] [] l h = refl
same_set [] (y ∷ b) l h = absurd (omega arith)
same_set (x ∷ a) [] l h = absurd (omega arith)
same_set (x ∷ a) (y ∷ b) l h =
    let head : x ≡ y = same_flag x y (h zero) in
    let few : length a ≡ length b = omega arith in
    let tail : a ≡ b = same_set a b few (λ s. h (suc s)) in
    cc

-- below a bound the set has what another has
pub record HasBelow (with : List Bool) (bound : ℕ) (set : List Bool) : Type 0 where
  pub many : length set ≡ length with
  pub same : (s : ℕ) → s < bound → Has set s ↔ Has with s

-- all ids below the bound are all
pub all_below : (with : List Bool) (bound : ℕ) (set : List Bool) → length with ≤ bound
    → HasBelow with bound set → set ≡ with
all_below with bound set whole h =
    same_set set with h.many (λ s. elim (cases_lt s bound) [
      | inl low ↦ h.same s low
      | inr high ↦ (
        λ in_set. let within : s < length set = has_within set s in_set in
            absurd (omega (arith, h.many)),
        λ in_with. let within : s < length with = has_within with s in_with in absurd (omega arith),
      )
    ])
