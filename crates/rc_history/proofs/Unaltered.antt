-- A service goes on unaltered in another database, or it does not: which one can be decided.
use Rattle.std.proofs.Common.{◌≡◌, ◌∙◌, ◌⊎◌, ◌<◌, inl, inr, ℕ, zero, suc, Bool, true, false, List}
use Rattle.std.proofs.Common.{length, Option, Some, None, slice_get, arith, refl}
use Rattle.std.proofs.Common.{sym, subst}
use Rattle.std.specs.Str.{bytes_eq}
use Rattle.std.proofs.lemmas.Bool.{cases_lt}
use Rattle.std.proofs.lemmas.Option.{none-some, same_Some}
use Rattle.std.proofs.lemmas.Slice.Eq.{bytes_eq-Decides}
use Rattle.rc_model.specs.declared.Kind.{Kind}
use Rattle.rc_model.specs.declared.Kind.TheVariants as kind
use Rattle.rc_model.specs.Graph.{Needs}
use Rattle.rc_model.specs.Database.{Database, IsDatabase, Service}
use Rattle.rc_update.specs.Conversions.{Conversion, counterpart, is_restarted}
use Rattle.rc_update.specs.Carrying.{AreTwins, IsAlike, IsRestarted, IsSame, IsTwin, IsUnaltered}
use Rattle.rc_update.proofs.CarryingLemmas.{one_twin, twin_within}
use Rattle.rc_session.proofs.Deciding.{Decided, both, needs_decided}

-- some number below a bound, or none
some_below : (P : ℕ → Type 0) (n : ℕ) → ((s : ℕ) → Decided (P s))
    → ((s : ℕ) × (s < n) × P s) ⊎ ((s : ℕ) → s < n → P s → ⊥)
some_below P zero by = inr (λ s low h. absurd (omega (arith, low)))
some_below P (suc n) by = elim (by n) [
  | inl here ↦ inl (n, omega arith, here)
  | inr not_here ↦ elim (some_below P n by) [
    | inl there ↦ let low : there.0 < n = there.1 in inl (there.0, omega (arith, low), there.2)
    | inr none ↦ inr (λ s low h. elim (cases_lt s n) [
      | inl below ↦ none s below h
      | inr high ↦ let same : s ≡ n = omega (arith, low, high) in not_here (subst P same h)
    ])
  ]
]

-- what is below a bound in any case
some_of : (P : ℕ → Type 0) (n : ℕ) → ((s : ℕ) → P s → s < n) → ((s : ℕ) → Decided (P s))
    → Decided ((s : ℕ) × P s)
some_of P n below by = elim (some_below P n by) [
  | inl there ↦ inl (there.0, there.2)
  | inr none ↦ inr (λ h. none h.0 (below h.0 h.1) h.1)
]

each_of : (P Q : ℕ → Type 0) (n : ℕ) → ((s : ℕ) → P s → s < n) → ((s : ℕ) → Decided (P s))
    → ((s : ℕ) → Decided (Q s)) → Decided ((s : ℕ) → P s → Q s)
each_of P Q n below by of =
    elim (some_of (λ s. P s × (Q s → ⊥)) n (λ s h. below s h.0)
    (λ s. both (P s) (Q s → ⊥) (by s) (not_so s (of s)))) [
      | inl fails ↦ inr (λ f. fails.1.1 (f fails.0 fails.1.0))
      | inr none ↦ inl (λ s p. elim (of s) [
        | inl q ↦ q
        | inr never ↦ absurd (none (s, (p, never)))
      ])
    ]
  where
    not_so : (s : ℕ) → Decided (Q s) → Decided (Q s → ⊥)
    not_so s (inl is) = inr (λ never. never is)
    not_so s (inr never) = inl never

same_or_not : (a b : List ℕ) → Decided (a ≡ b)
same_or_not a b = by (bytes_eq a b) refl
  where
    by : (e : Bool) → bytes_eq a b ≡ e → Decided (a ≡ b)
    by true is = inl ((bytes_eq-Decides a b).0 is)
    by false is =
        inr (λ same. let bad : false ≡ true = sym is ∙ (bytes_eq-Decides a b).1 same in cc)

kind_or_not : (a b : Kind) → Decided (a ≡ b)
kind_or_not kind.Oneshot kind.Oneshot = inl refl
kind_or_not kind.Oneshot kind.Longrun = inr (λ same. cc)
kind_or_not kind.Oneshot kind.Bundle = inr (λ same. cc)
kind_or_not kind.Longrun kind.Oneshot = inr (λ same. cc)
kind_or_not kind.Longrun kind.Longrun = inl refl
kind_or_not kind.Longrun kind.Bundle = inr (λ same. cc)
kind_or_not kind.Bundle kind.Oneshot = inr (λ same. cc)
kind_or_not kind.Bundle kind.Longrun = inr (λ same. cc)
kind_or_not kind.Bundle kind.Bundle = inl refl

module _ (old new : Database) (list : List Conversion) (is_old : IsDatabase old)
    (is_new : IsDatabase new) where
  twin_or_not : (s t : ℕ) → Decided (IsTwin old new list s t)
  twin_or_not s t = from (slice_get old.names s) refl
    where
      behind : (name other : List ℕ) → slice_get old.names s ≡ Some name
          → counterpart list name ≡ Some other → (there : Option (List ℕ))
          → slice_get new.names t ≡ there → Decided (IsTwin old new list s t)
      behind name other at on None none =
          inr (λ twin. none-some twin.1 (sym none ∙ twin.4))
      behind name other at on (Some found) there = elim (same_or_not found other) [
        | inl same ↦
            inl (
              name,
              other,
              at,
              on,
              subst (λ (n : List ℕ). slice_get new.names t ≡ Some n) same there,
            )
        | inr not_same ↦ inr (λ twin.
            let one : name ≡ twin.0 = same_Some name twin.0 (sym at ∙ twin.2) in
            let two : other ≡ twin.1 = same_Some other twin.1
            (sym on
            ∙ subst (λ (n : List ℕ). counterpart list n ≡ Some twin.1) (sym one) twin.3) in
            not_same (same_Some found twin.1 (sym there ∙ twin.4) ∙ sym two))
      ]

      over : (name : List ℕ) → slice_get old.names s ≡ Some name → (on : Option (List ℕ))
          → counterpart list name ≡ on → Decided (IsTwin old new list s t)
      over name at None none =
          inr (λ twin.
          let one : name ≡ twin.0 = same_Some name twin.0 (sym at ∙ twin.2) in
          none-some twin.1 (sym none
          ∙ subst (λ (n : List ℕ). counterpart list n ≡ Some twin.1) (sym one) twin.3))
      over name at (Some other) on = behind name other at on (slice_get new.names t) refl

      from : (name : Option (List ℕ)) → slice_get old.names s ≡ name
          → Decided (IsTwin old new list s t)
      from None none = inr (λ twin. none-some twin.0 (sym none ∙ twin.2))
      from (Some name) at = over name at (counterpart list name) refl

  twins_or_not : (s t : Option ℕ) → Decided (AreTwins old new list s t)
  twins_or_not None None = inl tt
  twins_or_not None (Some t) = inr (λ h. h)
  twins_or_not (Some s) None = inr (λ h. h)
  twins_or_not (Some s) (Some t) = twin_or_not s t

  restarted_or_not : (s : ℕ) → Decided (IsRestarted old list s)
  restarted_or_not s = from (slice_get old.names s) refl
    where
      by : (name : List ℕ) → slice_get old.names s ≡ Some name → (b : Bool)
          → is_restarted list name ≡ b → Decided (IsRestarted old list s)
      by name at true is = inl (name, at, is)
      by name at false is = inr (λ h.
          let one : name ≡ h.0 = same_Some name h.0 (sym at ∙ h.1) in
          let bad : false ≡ true = sym is
          ∙ subst (λ (n : List ℕ). is_restarted list n ≡ true) (sym one) h.2 in cc)

      from : (name : Option (List ℕ)) → slice_get old.names s ≡ name
          → Decided (IsRestarted old list s)
      from None none = inr (λ h. none-some h.0 (sym none ∙ h.1))
      from (Some name) at = by name at (is_restarted list name) refl

  Alike : (s t : ℕ) → Type 0
  Alike s t = (a b : Service) → slice_get old.services s ≡ Some a
      → slice_get new.services t ≡ Some b → IsAlike old new list a b

  alike_or_not : (s t : ℕ) → Decided (Alike s t)
  unfolding Alike
  alike_or_not s t = from (slice_get old.services s) refl
    where
      two : (a b : Service) → slice_get old.services s ≡ Some a
          → slice_get new.services t ≡ Some b
          → Decided ((a.kind ≡ b.kind) × AreTwins old new list a.producer_for b.producer_for)
          → Decided (Alike s t)
      two a b at there (inl is) = inl (λ c d at_c at_d.
          subst (λ (x : Service). IsAlike old new list x d) (same_Some a c (sym at ∙ at_c))
          (subst (λ (y : Service). IsAlike old new list a y) (same_Some b d (sym there ∙ at_d))
          (record { kind = is.0; reader = is.1 })))
      two a b at there (inr never) = inr (λ h.
          let is = h a b at there in never (is.kind, is.reader))

      over : (a : Service) → slice_get old.services s ≡ Some a → (b : Option Service)
          → slice_get new.services t ≡ b → Decided (Alike s t)
      over a at None none = inl (λ c d at_c at_d. absurd (none-some d (sym none ∙ at_d)))
      over a at (Some b) there =
          two a b at there
          (both (a.kind ≡ b.kind) (AreTwins old new list a.producer_for b.producer_for)
          (kind_or_not a.kind b.kind) (twins_or_not a.producer_for b.producer_for))

      from : (a : Option Service) → slice_get old.services s ≡ a → Decided (Alike s t)
      from None none = inl (λ c d at_c at_d. absurd (none-some c (sym none ∙ at_c)))
      from (Some a) at = over a at (slice_get new.services t) refl

  Forth : (s t : ℕ) → Type 0
  Forth s t = (x : ℕ) → Needs old.needs s x
      → (u : ℕ) × (IsTwin old new list x u × Needs new.needs t u)

  Back : (s t : ℕ) → Type 0
  Back s t = (u : ℕ) → Needs new.needs t u
      → (x : ℕ) × (Needs old.needs s x × IsTwin old new list x u)

  forth_or_not : (s t : ℕ) → Decided (Forth s t)
  unfolding Forth
  forth_or_not s t =
      each_of (Needs old.needs s)
      (λ x. (u : ℕ) × (IsTwin old new list x u × Needs new.needs t u)) (length old.needs)
      (is_old.needs.known s) (needs_decided old.needs s)
      (λ x. some_of (λ u. IsTwin old new list x u × Needs new.needs t u) (length new.names)
      (λ u h. twin_within old new list x u h.0)
      (λ u. both (IsTwin old new list x u) (Needs new.needs t u) (twin_or_not x u)
      (needs_decided new.needs t u)))

  back_or_not : (s t : ℕ) → Decided (Back s t)
  unfolding Back
  back_or_not s t =
      each_of (Needs new.needs t)
      (λ u. (x : ℕ) × (Needs old.needs s x × IsTwin old new list x u)) (length new.needs)
      (is_new.needs.known t) (needs_decided new.needs t)
      (λ u. some_of (λ x. Needs old.needs s x × IsTwin old new list x u) (length old.needs)
      (λ x h. is_old.needs.known s x h.0)
      (λ x. both (Needs old.needs s x) (IsTwin old new list x u) (needs_decided old.needs s x)
      (twin_or_not x u)))

  same_as : (s t : ℕ) → IsTwin old new list s t → Decided (IsSame old new list s t)
  unfolding Alike Forth Back
  same_as s t twin = elim (alike_or_not s t) [
    | inr never ↦ inr (λ same. never same.alike)
    | inl alike ↦ elim (forth_or_not s t) [
      | inr never ↦ inr (λ same. never (λ x need.
          let on = same.needs.forth x need in (on.0, (on.1, on.2))))
      | inl forth ↦ elim (back_or_not s t) [
        | inr never ↦ inr (λ same. never (λ u need.
            let from = same.needs.back u need in (from.0, (from.1, from.2))))
        | inl back ↦
            inl (record {
              twin = twin;
              alike = alike;
              needs = record {
                forth = λ x need. let on = forth x need in (on.0, on.1.0, on.1.1);
                back = λ u need. let from = back u need in (from.0, from.1.0, from.1.1);
              };
            })
      ]
    ]
  ]

  pub unaltered_or_not : (s : ℕ) → Decided (IsUnaltered old new list s)
  unaltered_or_not s = elim (restarted_or_not s) [
    | inl goes ↦ inr (λ is. is.spared goes)
    | inr spared ↦
        elim (some_of (IsTwin old new list s) (length new.names) (twin_within old new list s)
        (twin_or_not s)) [
          | inr none ↦ inr (λ is. none (is.same.0, is.same.1.twin))
          | inl on ↦ elim (same_as s on.0 on.1) [
            | inl same ↦ inl (record { spared = spared; same = (on.0, same) })
            | inr never ↦ inr (λ is. never (subst (IsSame old new list s)
                (one_twin old new list s is.same.0 on.0 is_new is.same.1.twin on.1) is.same.1))
          ]
        ]
  ]
