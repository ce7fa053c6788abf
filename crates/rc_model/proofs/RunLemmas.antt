-- Runs and their prefixes, induction over a run, and what was taken or ended in it.
use Rattle.std.proofs.Common.{◌≡◌, ℕ, zero, suc, ◌+◌, ◌<◌, ◌≤◌, ◌⊎◌, inl, inr, List, [], ◌∷◌, ◌++◌}
use Rattle.std.proofs.Common.{length, take, drop, Contains, Some, None, slice_get, refl, sym, ap}
use Rattle.std.proofs.Common.{◌∙◌, subst, arith}
use Rattle.std.proofs.lemmas.Bool.{cases_lt}
use Rattle.std.proofs.lemmas.List.{take-append-le, take-append-drop, take-take, take_at, take_all}
use Rattle.std.proofs.lemmas.List.{length_push}
use Rattle.std.proofs.lemmas.List.Elements.{Contains-append_left}
use Rattle.std.proofs.lemmas.Option.{slice_get-get_or, slice_get_within, same_Some}
use Rattle.rc_model.specs.declared.Outcome.{Outcome}
use Rattle.rc_model.specs.declared.Event.{Event}
use Rattle.rc_model.specs.declared.Event.TheVariants.{Take, Done}
use Rattle.rc_model.specs.Run.{Course, IsPlanned, IsLegal, IsRun}

-- before the end of a list with one more element stands what stood there
pub slice_get-push_before : {X : Type 0} (xs : List X) (y : X) (k : ℕ) → k < length xs
    → slice_get (xs ++ y ∷ []) k ≡ slice_get xs k
slice_get-push_before [] y k low = absurd (omega arith)
slice_get-push_before (x ∷ xs) y zero low = refl
slice_get-push_before (x ∷ xs) y (suc k) low =
    let less : k < length xs = omega arith in slice_get-push_before xs y k less

-- at the end of a list with one more element stands that one
pub slice_get-push_last : {X : Type 0} (xs : List X) (y : X)
    → slice_get (xs ++ y ∷ []) (length xs) ≡ Some y
slice_get-push_last [] y = refl
slice_get-push_last (x ∷ xs) y = slice_get-push_last xs y

-- what stands in the prefix of a list stands there in the list
pub slice_get-take : {X : Type 0} (k : ℕ) (xs : List X) (j : ℕ) (x : X)
    → slice_get (take k xs) j ≡ Some x → (j < k) × (slice_get xs j ≡ Some x)
slice_get-take zero xs j x at = let bad : None ≡ Some x = at in cc
slice_get-take (suc k) [] j x at = let bad : None ≡ Some x = at in cc
slice_get-take (suc k) (y ∷ xs) zero x at = (omega arith, at)
slice_get-take (suc k) (y ∷ xs) (suc j) x at =
    let rest = slice_get-take k xs j x at in (omega (arith, rest.0), rest.1)

-- the prefix of a list with one more element, or the list has no more
pub take_next : {X : Type 0} (xs : List X) (k : ℕ)
    → ((x : X) × (slice_get xs k ≡ Some x) × (take (suc k) xs ≡ take k xs ++ x ∷ []))
    ⊎ (take (suc k) xs ≡ take k xs)
take_next [] zero = inr refl
take_next [] (suc k) = inr refl
take_next (x ∷ xs) zero = inl (x, refl, refl)
take_next (x ∷ xs) (suc k) = elim (take_next xs k) [
  | inl more ↦ inl (more.0, more.1, ap (λ ys. x ∷ ys) more.2)
  | inr same ↦ inr (ap (λ ys. x ∷ ys) same)
]

-- nothing has happened
pub run_empty : (c : Course) → IsRun c []
run_empty c k event at = let bad : None ≡ Some event = at in absurd (cc)

-- a run with one more legal event is a run
pub run_push : (c : Course) (events : List Event) (e : Event) → IsRun c events → IsLegal c events e
    → IsRun c (events ++ e ∷ [])
run_push c events e run legal k event at = elim (cases_lt k (length events)) [
  | inl earlier ↦ let le : k ≤ length events = omega arith in
      rw (take-append-le k events (e ∷ []) le)
      (run k event (sym (slice_get-push_before events e k earlier) ∙ at))
  | inr later ↦ let n : length (events ++ e ∷ []) ≡ length events + 1 = length_push events e in
      let low : k < length (events ++ e ∷ []) = slice_get_within (events ++ e ∷ []) k event at in
      let here : length events ≡ k = omega arith in
      let last : slice_get (events ++ e ∷ []) k ≡ Some e =
      subst (λ (j : ℕ). slice_get (events ++ e ∷ []) j ≡ Some e) here
      (slice_get-push_last events e) in
      let same : e ≡ event = same_Some e event (sym last ∙ at) in
      rw (take_at events (e ∷ []) k here) (subst (λ (one : Event). IsLegal c events one) same legal)
]

-- the prefix of a run is a run
pub run_prefix : (c : Course) (events : List Event) (k : ℕ) → IsRun c events
    → IsRun c (take k events)
run_prefix c events k run j event at =
    let whole : (j < k) × (slice_get events j ≡ Some event) = slice_get-take k events j event at in
    let le : j ≤ k = omega (arith, whole.0) in
    rw (take-take j k events le) (run j event whole.1)

-- what each legal event keeps is true at each moment of a run
pub run_moments : (c : Course) (P : List Event → Type 0) → P []
    → ((events : List Event) (e : Event) → IsRun c events → P events → IsLegal c events e
    → P (events ++ e ∷ [])) → (events : List Event) → IsRun c events → (k : ℕ) → P (take k events)
run_moments c P first next events run zero = first
run_moments c P first next events run (suc k) = elim (take_next events k) [
  | inl more ↦
      subst P (sym more.2)
      (next (take k events) more.0 (run_prefix c events k run)
      (run_moments c P first next events run k) (run k more.0 more.1))
  | inr same ↦ subst P (sym same) (run_moments c P first next events run k)
]

-- what is true at first, and what each legal event keeps, is true of each run
pub run_induction : (c : Course) (P : List Event → Type 0) → P []
    → ((events : List Event) (e : Event) → IsRun c events → P events → IsLegal c events e
    → P (events ++ e ∷ [])) → (events : List Event) → IsRun c events → P events
run_induction c P first next events run =
    let whole : take (length events) events ≡ events =
    take_all (length events) events (omega arith) in
    subst P whole (run_moments c P first next events run (length events))

-- an event of a run was legal when it came
pub legal_within : (c : Course) (events : List Event) (e : Event) → IsRun c events
    → Contains events e → (k : ℕ) × (k < length events) × IsLegal c (take k events) e
legal_within c events e run has =
    let at : slice_get events has.0 ≡ Some e =
    slice_get-get_or events has.0 e has.1 ∙ ap Some has.2 in
    (has.0, has.1, run has.0 e at)

-- what the prefix of a list contains the list contains
pub contains_prefix : (events : List Event) (k : ℕ) (e : Event) → Contains (take k events) e
    → Contains events e
contains_prefix events k e has =
    subst (λ (all : List Event). Contains all e) (take-append-drop k events)
    (Contains-append_left (take k events) (drop k events) e has)

-- a transition that ended was taken
pub done_was_taken : (c : Course) (events : List Event) (w s : ℕ) (o : Outcome) → IsRun c events
    → Contains events (Done w s o) → Contains events (Take w s)
done_was_taken c events w s o run has =
    let legal = legal_within c events (Done w s o) run has in
    contains_prefix events legal.0 (Take w s) legal.2.1.0

-- a service that was taken was to move
pub taken_was_planned : (c : Course) (events : List Event) (w s : ℕ) → IsRun c events
    → Contains events (Take w s) → IsPlanned c s
taken_was_planned c events w s run has =
    let legal = legal_within c events (Take w s) run has in
    elim legal.2.3 [ inl sinks ↦ inl sinks.planned | inr rises ↦ inr rises.planned ]

-- the first events of a run begin it too
pub front_run : (c : Course) (events rest : List Event) → IsRun c (events ++ rest) → IsRun c events
front_run c events rest run =
    subst (λ (l : List Event). IsRun c l) (take_at events rest (length events) refl)
    (run_prefix c (events ++ rest) (length events) run)
