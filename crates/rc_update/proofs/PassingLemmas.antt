-- What sets have of the places passed, one more of which is passed.
use Rattle.std.proofs.Common.{◌≡◌, ◌+◌, ◌<◌, ◌≤◌, ◌⊎◌, ⊎_elim, inl, inr, ℕ, Bool, List, subst}
use Rattle.std.proofs.Common.{arith}
use Rattle.std.proofs.lemmas.Bool.{cases_lt}
use Rattle.rc_model.specs.Names.{Has, Holds}
use Rattle.rc_db.proofs.Pipelines.{one_more_passed}

-- the next one, which is live, is put in unless it is fine
pub add_more : (Live Fine : ℕ → Type 0) (old new : List Bool) (i : ℕ) → Live i
    → Holds old (λ s. (s < i) × (Live s × (Fine s → ⊥)))
    → Holds new (λ s. Has old s ⊎ ((s ≡ i) × (Fine i → ⊥)))
    → Holds new (λ s. (s < i + 1) × (Live s × (Fine s → ⊥)))
add_more Live Fine old new i live passed more =
    one_more_passed (λ s. Live s × (Fine s → ⊥)) old new i passed (λ s. (
      λ has. ⊎_elim (λ in_old. inl in_old) (λ is. inr (is.0, (live, is.1))) ((more s).0 has),
      λ cases. (more s).1
          (⊎_elim (λ in_old. inl in_old) (λ is. inr (is.0, is.1.1)) cases),
    ))

-- of those passed each that is not put in is fine
pub spared_next : (Live Fine : ℕ → Type 0) (old new : List Bool) (i : ℕ)
    → ((s : ℕ) → Has old s → Has new s) → (Live i → (Has new i → ⊥) → Fine i)
    → ((s : ℕ) → s < i → Live s → (Has old s → ⊥) → Fine s) → (s : ℕ) → s < i + 1 → Live s
    → (Has new s → ⊥) → Fine s
spared_next Live Fine old new i more here before s within live lacks = ⊎_elim
    (λ low. before s low live (λ has. lacks (more s has)))
    (λ high. let same : i ≡ s = omega arith in
    subst (λ (k : ℕ). Live k → (Has new k → ⊥) → Fine k) same here live lacks)
    (cases_lt s i)

-- what the next one leads to is put in
pub led_in : (In : ℕ → Type 0) (Leads : ℕ → ℕ → Type 0) (old new : List Bool) (i : ℕ) → In i
    → Holds old (λ t. (s : ℕ) × (s < i) × In s × Leads s t)
    → Holds new (λ t. Has old t ⊎ Leads i t)
    → Holds new (λ t. (s : ℕ) × (s < i + 1) × In s × Leads s t)
led_in In Leads old new i member passed more t = (
  λ has. ⊎_elim
      (λ in_old. let from = (passed t).0 in_old in let low : from.0 < i = from.1 in
      (from.0, omega arith, from.2, from.3))
      (λ leads. (i, omega arith, member, leads))
      ((more t).0 has),
  λ from. let within : from.0 < i + 1 = from.1 in (more t).1 (⊎_elim
      (λ low. inl ((passed t).1 (from.0, low, from.2, from.3)))
      (λ high. let same : from.0 ≡ i = omega arith in
      inr (subst (λ (s : ℕ). Leads s t) same from.3))
      (cases_lt from.0 i)),
)

-- or the next one is no member
pub led_out : (In : ℕ → Type 0) (Leads : ℕ → ℕ → Type 0) (set : List Bool) (i : ℕ) → (In i → ⊥)
    → Holds set (λ t. (s : ℕ) × (s < i) × In s × Leads s t)
    → Holds set (λ t. (s : ℕ) × (s < i + 1) × In s × Leads s t)
led_out In Leads set i other passed t = (
  λ has. let from = (passed t).0 has in let low : from.0 < i = from.1 in
      (from.0, omega arith, from.2, from.3),
  λ from. let within : from.0 < i + 1 = from.1 in ⊎_elim
      (λ low. (passed t).1 (from.0, low, from.2, from.3))
      (λ high. let same : from.0 ≡ i = omega arith in absurd (other (subst In same from.2)))
      (cases_lt from.0 i),
)

-- once all are passed, the set has what they lead to
pub all_led : (In : ℕ → Type 0) (Leads : ℕ → ℕ → Type 0) (set : List Bool) (i n : ℕ) → n ≤ i
    → ((s : ℕ) → In s → s < n)
    → Holds set (λ t. (s : ℕ) × (s < i) × In s × Leads s t)
    → Holds set (λ t. (s : ℕ) × In s × Leads s t)
all_led In Leads set i n most within passed t = (
  λ has. let from = (passed t).0 has in (from.0, from.2, from.3),
  λ from. let low : from.0 < n = within from.0 from.1 in
      (passed t).1 (from.0, omega arith, from.1, from.2),
)
