-- A logged run that was cut short, with an end added for each transition that has none, is settled.
use Rattle.std.proofs.Common.{◌≡◌, ◌∙◌, ◌⊎◌, ◌↔◌, ◌≤◌, inl, inr, ℕ, List, [], ◌∷◌, ◌++◌, Bool, true}
use Rattle.std.proofs.Common.{false, cond, ◌==◌, All, Contains, slice_index_or, Some, refl}
use Rattle.std.proofs.Common.{ap, sym, subst, arith, append_assoc}
use Rattle.std.specs.List.{fold, list_any}
use Rattle.std.proofs.lemmas.Bool.{cases_Bool, cond-true, cond-false, eqb-true, eq-eqb, false≢true}
use Rattle.std.proofs.lemmas.Bool.{and_parts, and_from}
use Rattle.std.proofs.lemmas.List.Elements.{All-push, Contains-append_left, Contains-append_right}
use Rattle.std.proofs.lemmas.List.Elements.{Contains-append_cases, Contains-push}
use Rattle.std.proofs.lemmas.List.Elements.{Contains-push_cases}
use Rattle.std.proofs.lemmas.List.Folds.{Any-from_list_any, list_any_at}
use Rattle.rc_model.specs.declared.Outcome.{Outcome}
use Rattle.rc_model.specs.declared.Outcome.TheVariants as outcome
use Rattle.rc_model.specs.declared.Event.{Event}
use Rattle.rc_model.specs.declared.Event.TheVariants.{Take, Done, Stop}
use Rattle.rc_model.specs.declared.Standing.{Standing}
use Rattle.rc_model.specs.declared.Standing.TheVariants.{Down, Rising, Up, Sinking}
use Rattle.rc_model.specs.Run.{Course, IsLegal, IsLive, IsRun, IsSettled, IsStopped, NoneHeld}
use Rattle.rc_model.specs.Run.{after_end, standing_of}
use Rattle.rc_model.proofs.RunLemmas.{run_push, legal_within}
use Rattle.rc_model.proofs.EventLemmas.{take_then_done, take_then_stop}
use Rattle.rc_model.proofs.StandingLemmas.{standing_push, standing_stop}
use Rattle.rc_recovery.specs.Ends.{ends, with_end, with_ends, last_stop, IsEndOf}

-- an event that ends a transition is its end
ends_what : (w s : ℕ) (x : Event) → ends w s x ≡ true → (o : Outcome) × (x ≡ Done w s o)
ends_what w s (Take v t) e = absurd (false≢true e)
ends_what w s (Done v t o) e =
    let parts = and_parts (v == w) (t == s) e in (
      o,
      ap (λ (x : ℕ). Done x t o) (eqb-true v w parts.0)
          ∙ ap (λ (y : ℕ). Done w y o) (eqb-true t s parts.1),
    )
ends_what w s (Stop v m) e = absurd (false≢true e)

ends_self : (w s : ℕ) (o : Outcome) → ends w s (Done w s o) ≡ true
ends_self w s o = and_from (w == w) (s == s) (eq-eqb w w refl) (eq-eqb s s refl)

any_true : (w s : ℕ) (events : List Event) → list_any (ends w s) events ≡ true
    → (o : Outcome) × Contains events (Done w s o)
any_true w s events e =
    let found = Any-from_list_any (ends w s) events e in
    let what = ends_what w s found.1 found.4 in (
      what.0,
      (
        found.0,
        found.2,
        subst (λ (y : Event). slice_index_or events found.0 y ≡ y) what.1 found.3,
      ),
    )

pub any_false : (w s : ℕ) (events : List Event) → list_any (ends w s) events ≡ false → (o : Outcome)
    → Contains events (Done w s o) → ⊥
any_false w s events e o h =
    let there : ends w s (slice_index_or events h.0 (Done w s o)) ≡ true =
    ap (ends w s) h.2 ∙ ends_self w s o in
    false≢true (sym e ∙ list_any_at (ends w s) events h.0 (Done w s o) h.1 there)

-- what one event adds: nothing, or the end of the transition that it begins and that has none
abbrev IsMore : List Event → Event → Type 0
IsMore events e = (with_end events e ≡ events)
    ⊎ ((w : ℕ) × (s : ℕ) × (e ≡ Take w s) × (list_any (ends w s) events ≡ false)
    × (with_end events e ≡ events ++ Done w s outcome.NotStarted ∷ []))

more : (events : List Event) (e : Event) → IsMore events e
more events (Take w s) = elim (cases_Bool (list_any (ends w s) events)) [
  | inl there ↦ inl
      (cond-true (list_any (ends w s) events) events (events ++ Done w s outcome.NotStarted ∷ [])
      there)
  | inr none ↦ inr (
    w,
    s,
    refl,
    none,
    cond-false (list_any (ends w s) events) events (events ++ Done w s outcome.NotStarted ∷ [])
        none,
  )
]
more events (Done w s o) = inl refl
more events (Stop w m) = inl refl

keeps_one : (events : List Event) (e x : Event) → Contains events x → Contains (with_end events e) x
keeps_one events e x h = elim (more events e) [
  | inl same ↦ subst (λ (all : List Event). Contains all x) (sym same) h
  | inr (w, s, is, none, added) ↦ subst (λ (all : List Event). Contains all x) (sym added)
      (Contains-append_left events (Done w s outcome.NotStarted ∷ []) x h)
]

keeps_all : (rest events : List Event) (x : Event) → Contains events x
    → Contains (fold with_end events rest) x
keeps_all [] events x h = h
keeps_all (e ∷ rest) events x h = keeps_all rest (with_end events e) x (keeps_one events e x h)

takes_one : (events : List Event) (e : Event) (v t : ℕ) → Contains (with_end events e) (Take v t)
    → Contains events (Take v t)
takes_one events e v t h = elim (more events e) [
  | inl same ↦ subst (λ (all : List Event). Contains all (Take v t)) same h
  | inr (w, s, is, none, added) ↦ take_then_done events w s outcome.NotStarted v t
      (subst (λ (all : List Event). Contains all (Take v t)) added h)
]

takes_all : (rest events : List Event) (v t : ℕ)
    → Contains (fold with_end events rest) (Take v t) → Contains events (Take v t)
takes_all [] events v t h = h
takes_all (e ∷ rest) events v t h =
    takes_one events e v t (takes_all rest (with_end events e) v t h)

stop_then_done : (events : List Event) (w s v m : ℕ) (o : Outcome)
    → Contains (events ++ Done w s o ∷ []) (Stop v m) → Contains events (Stop v m)
stop_then_done events w s v m o h = elim (Contains-push_cases events (Done w s o) (Stop v m) h) [
  | inl before ↦ before
  | inr now ↦ absurd (let bad : Done w s o ≡ Stop v m = now in cc)
]

stops_one : (events : List Event) (e : Event) (v m : ℕ) → Contains (with_end events e) (Stop v m)
    → Contains events (Stop v m)
stops_one events e v m h = elim (more events e) [
  | inl same ↦ subst (λ (all : List Event). Contains all (Stop v m)) same h
  | inr (w, s, is, none, added) ↦ stop_then_done events w s v m outcome.NotStarted
      (subst (λ (all : List Event). Contains all (Stop v m)) added h)
]

stops_all : (rest events : List Event) (v m : ℕ)
    → Contains (fold with_end events rest) (Stop v m) → Contains events (Stop v m)
stops_all [] events v m h = h
stops_all (e ∷ rest) events v m h =
    stops_one events e v m (stops_all rest (with_end events e) v m h)

-- a transition that an event begins ends then
ends_one : (events : List Event) (w s : ℕ)
    → (o : Outcome) × Contains (with_end events (Take w s)) (Done w s o)
ends_one events w s = elim (cases_Bool (list_any (ends w s) events)) [
  | inl there ↦
      let found = any_true w s events there in
      (found.0, keeps_one events (Take w s) (Done w s found.0) found.1)
  | inr none ↦ (
    outcome.NotStarted,
    subst (λ (all : List Event). Contains all (Done w s outcome.NotStarted))
        (sym (cond-false (list_any (ends w s) events) events
        (events ++ Done w s outcome.NotStarted ∷ []) none))
        (Contains-push events (Done w s outcome.NotStarted)),
  )
]

each_ends : (rest events : List Event) (w s : ℕ) → Contains rest (Take w s)
    → (o : Outcome) × Contains (fold with_end events rest) (Done w s o)
each_ends [] events w s h = absurd (let low = h.1 in omega (arith, low))
each_ends (e ∷ rest) events w s h = elim (Contains-append_cases (e ∷ []) rest (Take w s) h) [
  | inl first ↦ elim (Contains-push_cases [] e (Take w s) first) [
    | inl bad ↦ absurd (let low = bad.1 in omega (arith, low))
    | inr is ↦
        let one = ends_one events w s in
        let here : Contains (with_end events e) (Done w s one.0) =
        subst (λ (x : Event). Contains (with_end events x) (Done w s one.0)) (sym is) one.1 in
        (one.0, keeps_all rest (with_end events e) (Done w s one.0) here)
  ]
  | inr later ↦ each_ends rest (with_end events e) w s later
]

-- a run stays one
run_one : (c : Course) (events : List Event) (e : Event) → IsRun c events → Contains events e
    → IsRun c (with_end events e)
run_one c events e run has = elim (more events e) [
  | inl same ↦ subst (λ (all : List Event). IsRun c all) (sym same) run
  | inr (w, s, is, none, added) ↦
      let took : Contains events (Take w s) = subst (λ (x : Event). Contains events x) is has in
      let legal = legal_within c events (Take w s) run took in
      let next : IsLegal c events (Done w s outcome.NotStarted) =
      (legal.2.0, (took, any_false w s events none)) in
      subst (λ (all : List Event). IsRun c all) (sym added)
      (run_push c events (Done w s outcome.NotStarted) run next)
]

run_all : (c : Course) (rest events : List Event) → IsRun c events
    → ((x : Event) → Contains rest x → Contains events x) → IsRun c (fold with_end events rest)
run_all c [] events run within = run
run_all c (e ∷ rest) events run within =
    let has : Contains events e =
    within e (Contains-append_left (e ∷ []) rest e (Contains-push [] e)) in
    run_all c rest (with_end events e) (run_one c events e run has)
    (λ x h. keeps_one events e x (within x (Contains-append_right (e ∷ []) rest x h)))

pub ends_run : (c : Course) (logged : List Event) → IsRun c logged → IsRun c (with_ends logged)
ends_run c logged run = run_all c logged logged run (λ x h. h)

pub none_held : (logged : List Event) → NoneHeld (with_ends logged)
none_held logged w s held =
    let ended = each_ends logged logged w s (takes_all logged logged w s held.0) in
    held.1 ended.0 ended.1

none_held_stopped : (logged : List Event) → NoneHeld (with_ends logged ++ last_stop ∷ [])
none_held_stopped logged w s held =
    let took : Contains (with_ends logged) (Take w s) =
    take_then_stop (with_ends logged) 1 18446744073709551615 w s held.0 in
    let ended = each_ends logged logged w s (takes_all logged logged w s took) in
    held.1 ended.0
    (Contains-append_left (with_ends logged) (last_stop ∷ []) (Done w s ended.0) ended.1)

pub settled_stopped : (c : Course) (logged : List Event) (d : ℕ) → IsRun c logged
    → (IsStopped logged → ⊥) → c.deadline ≡ Some d → d ≤ 18446744073709551615
    → IsSettled c (with_ends logged ++ last_stop ∷ [])
settled_stopped c logged d run fresh deadline low = record {
  run = run_push c (with_ends logged) last_stop (ends_run c logged run) (
    (omega arith, omega arith),
    λ stopped. fresh (stopped.0, stopped.1, stops_all logged logged stopped.0 stopped.1 stopped.2),
    (d, deadline, low),
  );
  none_held = none_held_stopped logged;
  ended = inl (1, 18446744073709551615, Contains-push (with_ends logged) last_stop);
}

-- what is added
abbrev pub AddsEnds : List Event → List Event → Type 0
AddsEnds logged all = (rest : List Event) × (all ≡ logged ++ rest) × All (IsEndOf logged) rest

adds_one : (logged events : List Event) (e : Event) → Contains logged e → AddsEnds logged events
    → AddsEnds logged (with_end events e)
adds_one logged events e has adds = elim (more events e) [
  | inl same ↦ subst (λ (all : List Event). AddsEnds logged all) (sym same) adds
  | inr (w, s, is, none, added) ↦
      let end : Event = Done w s outcome.NotStarted in
      let took : Contains logged (Take w s) = subst (λ (x : Event). Contains logged x) is has in
      let unended : (o : Outcome) → Contains logged (Done w s o)
      → ⊥ =
      λ o h. any_false w s events none o
      (subst (λ (all : List Event). Contains all (Done w s o)) (sym adds.1)
      (Contains-append_left logged adds.0 (Done w s o) h)) in (
        adds.0 ++ end ∷ [],
        added ∙ ap (λ (all : List Event). all ++ end ∷ []) adds.1
            ∙ append_assoc logged adds.0 (end ∷ []),
        All-push (IsEndOf logged) adds.0 end adds.2 (w, s, (took, unended), refl),
      )
]

adds_all : (logged rest events : List Event)
    → ((x : Event) → Contains rest x → Contains logged x) → AddsEnds logged events
    → AddsEnds logged (fold with_end events rest)
adds_all logged [] events within adds = adds
adds_all logged (e ∷ rest) events within adds =
    let has : Contains logged e =
    within e (Contains-append_left (e ∷ []) rest e (Contains-push [] e)) in
    adds_all logged rest (with_end events e)
    (λ x h. within x (Contains-append_right (e ∷ []) rest x h))
    (adds_one logged events e has adds)

no_more : (xs : List Event) → xs ≡ xs ++ []
no_more [] = refl
no_more (x ∷ xs) = ap (λ (ys : List Event). x ∷ ys) (no_more xs)

pub adds_ends : (logged : List Event) → AddsEnds logged (with_ends logged)
adds_ends logged =
    adds_all logged logged logged (λ x h. h)
    ([], no_more logged, λ k d low. absurd (omega (arith, low)))

-- what fails to move stays live, or not
abbrev IsAt : Standing → Type 0
IsAt standing = (standing ≡ Up) ⊎ (standing ≡ Sinking)

at_as : (a b : Standing) → a ≡ b → IsAt a ↔ IsAt b
at_as a b same = (subst IsAt same, subst IsAt (sym same))

failed_as : (standing : Standing) → IsAt (after_end false standing) ↔ IsAt standing
failed_as Down = (λ h. h, λ h. h)
failed_as Rising = (
  λ h. elim h [
    | inl e ↦ absurd (let bad : Down ≡ Up = e in cc)
    | inr e ↦ absurd (let bad : Down ≡ Sinking = e in cc)
  ],
  λ h. elim h [
    | inl e ↦ absurd (let bad : Rising ≡ Up = e in cc)
    | inr e ↦ absurd (let bad : Rising ≡ Sinking = e in cc)
  ],
)
failed_as Up = (λ h. h, λ h. h)
failed_as Sinking = (λ h. inr refl, λ h. inl refl)

failed_if : (here : Bool) (standing : Standing)
    → IsAt (cond here (after_end false standing) standing) ↔ IsAt standing
failed_if true standing = failed_as standing
failed_if false standing = (λ h. h, λ h. h)

live_one : (c : Course) (events : List Event) (e : Event) (s : ℕ)
    → IsLive c (with_end events e) s ↔ IsLive c events s
live_one c events e s = elim (more events e) [
  | inl same ↦ subst (λ (all : List Event). IsLive c all s ↔ IsLive c events s) (sym same)
      (λ h. h, λ h. h)
  | inr (w, t, is, none, added) ↦
      let last : standing_of c (events ++ Done w t outcome.NotStarted ∷ []) s ≡ cond (t == s)
      (after_end false (standing_of c events s)) (standing_of c events s) =
      standing_push c events (Done w t outcome.NotStarted) s in
      let there =
      at_as (standing_of c (events ++ Done w t outcome.NotStarted ∷ []) s)
      (cond (t == s) (after_end false (standing_of c events s)) (standing_of c events s)) last
      in
      let back = failed_if (t == s) (standing_of c events s) in
      subst (λ (all : List Event). IsLive c all s ↔ IsLive c events s) (sym added)
      (λ h. back.0 (there.0 h), λ h. there.1 (back.1 h))
]

live_all : (c : Course) (rest events : List Event) (s : ℕ)
    → IsLive c (fold with_end events rest) s ↔ IsLive c events s
live_all c [] events s = (λ h. h, λ h. h)
live_all c (e ∷ rest) events s =
    let later = live_all c rest (with_end events e) s in
    let one = live_one c events e s in
    (λ h. one.0 (later.0 h), λ h. later.1 (one.1 h))

pub live_as_known : (c : Course) (logged : List Event) (s : ℕ)
    → IsLive c (with_ends logged) s ↔ IsLive c logged s
live_as_known c logged s = live_all c logged logged s

pub live_as_known_stopped : (c : Course) (logged : List Event) (s : ℕ)
    → IsLive c (with_ends logged ++ last_stop ∷ []) s ↔ IsLive c logged s
live_as_known_stopped c logged s =
    let stop =
    at_as (standing_of c (with_ends logged ++ last_stop ∷ []) s)
    (standing_of c (with_ends logged) s)
    (standing_stop c (with_ends logged) 1 18446744073709551615 s) in
    let rest = live_as_known c logged s in
    (λ h. rest.0 (stop.0 h), λ h. stop.1 (rest.1 h))
