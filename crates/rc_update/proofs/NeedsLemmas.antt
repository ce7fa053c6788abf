-- What services need, looked at place by place.
use Rattle.std.proofs.Common.{◌≡◌, ◌∙◌, ◌+◌, ◌<◌, ◌≤◌, ◌⊎◌, ◌↔◌, ⊎_elim, inl, inr, ℕ, Bool, List}
use Rattle.std.proofs.Common.{[]}
use Rattle.std.proofs.Common.{Contains, get_or, length, slice_index_or, ap, subst, sym}
use Rattle.std.proofs.Common.{arith}
use Rattle.std.proofs.lemmas.Bool.{cases_lt}
use Rattle.std.proofs.lemmas.Grind.{get_or_default_zero}
use Rattle.std.proofs.lemmas.List.Elements.{Contains-get_or}
use Rattle.rc_model.specs.Graph.{Needs}
use Rattle.rc_model.specs.Names.{Has, Holds}
use Rattle.rc_model.specs.Database.{Database, IsDatabase}
use Rattle.rc_model.proofs.SetLemmas.{same_set}
use Rattle.rc_update.specs.Conversions.{Conversion}
use Rattle.rc_update.specs.Carrying.{IsTwin, NeedTwins}
use Rattle.rc_update.proofs.CarryingLemmas.{one_twin}

-- what is needed is a service
pub needs_low : (d : Database) (names : List (List ℕ)) (xs : List ℕ) (s k : ℕ) → IsDatabase d
    → names ≡ d.names → xs ≡ slice_index_or d.needs s [] → k < length xs
    → get_or xs k 0 < length names
needs_low d names xs s k of is list low =
    let there : Needs d.needs s (get_or xs k 0) =
    subst (λ (l : List ℕ). Contains l (get_or xs k 0)) list (Contains-get_or xs k 0 low) in
    let known = of.needs.known s (get_or xs k 0) there in
    omega (arith, known, of.fit.graph, ap length is)

-- what the places passed of a list lead to is in the set
abbrev pub Led : (Leads : ℕ → ℕ → Type 0) → List ℕ → ℕ → ℕ → Type 0
Led Leads xs i u = (k : ℕ) × (k < i) × Leads (get_or xs k 0) u

-- one more place leads to one more
pub led_more : (Leads : ℕ → ℕ → Type 0) (xs : List ℕ) (i v : ℕ) (old new : List Bool)
    → Holds old (Led Leads xs i) → Holds new (λ u. Has old u ⊎ (u ≡ v))
    → Leads (get_or xs i 0) v → ((u : ℕ) → Leads (get_or xs i 0) u → u ≡ v)
    → Holds new (Led Leads xs (i + 1))
led_more Leads xs i v old new passed more leads one u = (
  λ has. ⊎_elim
      (λ before.
      let from = (passed u).0 before in
      let low : from.0 < i = from.1 in (from.0, omega arith, from.2))
      (λ is. (i, omega arith, subst (Leads (get_or xs i 0)) (sym is) leads))
      ((more u).0 has),
  λ from. let within : from.0 < i + 1 = from.1 in (more u).1 (⊎_elim
      (λ low. inl ((passed u).1 (from.0, low, from.2)))
      (λ high.
      let same : from.0 ≡ i = omega arith in
      inr (one u (subst (λ (k : ℕ). Leads (get_or xs k 0) u) same from.2)))
      (cases_lt from.0 i)),
)

-- once all places are passed, the set has what the members of the list lead to
pub all_led : (Leads : ℕ → ℕ → Type 0) (xs ys : List ℕ) (i : ℕ) (set : List Bool)
    → xs ≡ ys → length xs ≤ i → Holds set (Led Leads xs i)
    → (i ≤ length xs) → Holds set (λ u. (x : ℕ) × Contains ys x × Leads x u)
all_led Leads xs ys i set is whole passed within u = (
  λ has.
      let from = (passed u).0 has in
      let low : from.0 < length xs = omega (arith, from.1) in (
        get_or xs from.0 0,
        subst (λ (l : List ℕ). Contains l (get_or xs from.0 0)) is
            (Contains-get_or xs from.0 0 low),
        from.2,
      ),
  λ from.
      let there = subst (λ (l : List ℕ). Contains l from.0) (sym is) from.1 in
      (passed u).1 (
        there.0,
        omega (arith, there.1),
        subst (λ (x : ℕ). Leads x u) (sym (placed from.0 there)) from.2,
      ),
)
  where
    placed : (x : ℕ) (there : Contains xs x) → get_or xs there.0 0 ≡ x
    placed x (k, low, here) = sym (get_or_default_zero xs k x low) ∙ here

-- and each member of the list leads somewhere
pub all_lead : (Leads : ℕ → ℕ → Type 0) (xs ys : List ℕ) (i : ℕ) → xs ≡ ys → length xs ≤ i
    → ((k : ℕ) → k < i → (u : ℕ) × Leads (get_or xs k 0) u)
    → (x : ℕ) → Contains ys x → (u : ℕ) × Leads x u
all_lead Leads xs ys i is whole each x member =
    let there = subst (λ (l : List ℕ). Contains l x) (sym is) member in
    let low : there.0 < length xs = there.1 in
    let to = each there.0 (omega (arith, whole, low)) in
    let here : get_or xs there.0 0 ≡ x =
    sym (get_or_default_zero xs there.0 x low) ∙ there.2 in
    (to.0, subst (λ (k : ℕ). Leads k to.0) here to.1)

-- what is needed goes on as what the other one needs where the sets of both are one
pub needs_by : (old new : Database) (list : List Conversion) (s t : ℕ) (on needs : List Bool)
    → IsDatabase new → length on ≡ length needs
    → Holds on (λ u. (x : ℕ) × Needs old.needs s x × IsTwin old new list x u)
    → Holds needs (Needs new.needs t)
    → ((x : ℕ) → Needs old.needs s x → (u : ℕ) × IsTwin old new list x u)
    → (on ≡ needs) ↔ NeedTwins old new list s t
needs_by old new list s t on needs nd bound leads are all = (
  λ same. record {
    forth = λ x need.
        let to = all x need in
        let has = (leads to.0).1 (x, need, to.1) in
        (to.0, to.1, (are to.0).0 (subst (λ (set : List Bool). Has set to.0) same has));
    back = λ u need.
        (leads u).0 (subst (λ (set : List Bool). Has set u) (sym same) ((are u).1 need));
  },
  λ twins. same_set on needs bound (λ u. (
    λ has.
        let from = (leads u).0 has in
        let to = twins.forth from.0 from.1 in
        let is : to.0 ≡ u = one_twin old new list from.0 to.0 u nd to.1 from.2 in
        (are u).1 (subst (Needs new.needs t) is to.2),
    λ has. (leads u).1 (twins.back u ((are u).0 has)),
  )),
)
