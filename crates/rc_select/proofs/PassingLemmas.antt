-- What sets have of the places passed, one more of which is passed.
use Rattle.std.proofs.Common.{◌≡◌, ◌+◌, ◌<◌, ◌≤◌, ◌⊎◌, ⊎_elim, inl, inr, ℕ, Bool, List}
use Rattle.std.proofs.Common.{arith}
use Rattle.std.proofs.lemmas.Bool.{cases_lt}
use Rattle.rc_model.specs.Names.{Has, Holds}
use Rattle.rc_set.specs.Next.{HasNoneFrom}
use Rattle.rc_db.proofs.Pipelines.{one_more_passed}

-- the next one is put in
pub put_in : (P : ℕ → Type 0) (old new : List Bool) (i : ℕ) → P i → Holds old (λ s. (s < i) × P s)
    → Holds new (λ s. Has old s ⊎ (s ≡ i)) → Holds new (λ s. (s < i + 1) × P s)
put_in P old new i holds passed more = one_more_passed P old new i passed (λ s. (
  λ has. ⊎_elim (λ in_old. inl in_old) (λ is. inr (is, holds)) ((more s).0 has),
  λ cases. (more s).1 (⊎_elim (λ in_old. inl in_old) (λ is. inr is.0) cases),
))

-- none of those up to a further place is put in
pub passed_to : (P : ℕ → Type 0) (set : List Bool) (at to : ℕ) → at ≤ to
    → ((s : ℕ) → at ≤ s → s < to → P s → ⊥) → Holds set (λ s. (s < at) × P s)
    → Holds set (λ s. (s < to) × P s)
passed_to P set at to further none passed s = (
  λ has. let h = (passed s).0 has in let low : s < at = h.0 in (omega arith, h.1),
  λ h. let within : s < to = h.0 in elim (cases_lt s at) [
    | inl low ↦ (passed s).1 (low, h.1)
    | inr high ↦ absurd (none s high within h.1)
  ],
)

-- where there is none from a place on, all are passed
pub passed_all : (P : ℕ → Type 0) (set : List Bool) (at : ℕ) → HasNoneFrom P at
    → Holds set (λ s. (s < at) × P s) → Holds set P
passed_all P set at none passed s = (
  λ has. ((passed s).0 has).1,
  λ holds. elim (cases_lt s at) [
    | inl low ↦ (passed s).1 (low, holds)
    | inr high ↦ absurd (none s high holds)
  ],
)
