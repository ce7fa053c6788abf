-- The events of a run without its stop.
use Rattle.std.proofs.Common.{◌≡◌, ◌∙◌, ◌↔◌, inl, inr, ℕ, List, [], ◌∷◌, ◌++◌, Contains, refl, ap}
use Rattle.std.proofs.Common.{sym, subst}
use Rattle.std.specs.List.{fold}
use Rattle.std.proofs.lemmas.List.Elements.{Contains-append_cases, Contains-append_left}
use Rattle.std.proofs.lemmas.List.Elements.{Contains-append_right, Contains-push_cases}
use Rattle.rc_model.specs.declared.Event.{Event}
use Rattle.rc_model.specs.declared.Event.TheVariants.{Take, Done, Stop}
use Rattle.rc_model.specs.declared.Outcome.{Outcome}
use Rattle.rc_model.specs.declared.Standing.{Standing}
use Rattle.rc_model.specs.Run.{CanMove, Course, IsLegal, IsLive, IsRun, IsStopped, after_event}
use Rattle.rc_model.specs.Run.{standing_at_first, standing_of}
use Rattle.rc_model.proofs.RunLemmas.{run_empty, run_induction, run_push}
use Rattle.rc_core.proofs.Opening.{none_happened}
use Rattle.rc_recovery.specs.Reordered.{without_stops}
use Rattle.rc_recovery.proofs.Reordering.{live_as}

-- stops move nothing
same_fold : (s : ℕ) (events : List Event) (at : Standing)
    → fold (after_event s) at (without_stops events) ≡ fold (after_event s) at events
same_fold s [] at = refl
same_fold s (Take w t ∷ events) at = same_fold s events (after_event s at (Take w t))
same_fold s (Done w t o ∷ events) at = same_fold s events (after_event s at (Done w t o))
same_fold s (Stop w m ∷ events) at = same_fold s events at

same_standing : (c : Course) (events : List Event) (s : ℕ)
    → standing_of c events s ≡ standing_of c (without_stops events) s
same_standing c events s = sym (same_fold s events (standing_at_first c s))

pub live_unstopped : (c : Course) (events : List Event) (s : ℕ)
    → IsLive c (without_stops events) s ↔ IsLive c events s
live_unstopped c events s =
    live_as c events (without_stops events) s (same_standing c events s)

take_more : (events : List Event) (w s : ℕ)
    → without_stops (events ++ Take w s ∷ []) ≡ without_stops events ++ Take w s ∷ []
take_more [] w s = refl
take_more (Take v t ∷ events) w s = ap (λ (l : List Event). Take v t ∷ l) (take_more events w s)
take_more (Done v t o ∷ events) w s =
    ap (λ (l : List Event). Done v t o ∷ l) (take_more events w s)
take_more (Stop v m ∷ events) w s = take_more events w s

done_more : (events : List Event) (w s : ℕ) (o : Outcome)
    → without_stops (events ++ Done w s o ∷ []) ≡ without_stops events ++ Done w s o ∷ []
done_more [] w s o = refl
done_more (Take v t ∷ events) w s o =
    ap (λ (l : List Event). Take v t ∷ l) (done_more events w s o)
done_more (Done v t p ∷ events) w s o =
    ap (λ (l : List Event). Done v t p ∷ l) (done_more events w s o)
done_more (Stop v m ∷ events) w s o = done_more events w s o

stop_more : (events : List Event) (w m : ℕ)
    → without_stops (events ++ Stop w m ∷ []) ≡ without_stops events
stop_more [] w m = refl
stop_more (Take v t ∷ events) w m = ap (λ (l : List Event). Take v t ∷ l) (stop_more events w m)
stop_more (Done v t o ∷ events) w m =
    ap (λ (l : List Event). Done v t o ∷ l) (stop_more events w m)
stop_more (Stop v n ∷ events) w m = stop_more events w m

-- whether an event is logged
abbrev IsLogged : Event → Type 0
IsLogged (Take w s) = Unit {0}
IsLogged (Done w s o) = Unit {0}
IsLogged (Stop w m) = ⊥

only : (x e : Event) → Contains (x ∷ []) e → x ≡ e
only x e at = elim (Contains-push_cases [] x e at) [
  | inl none ↦ absurd (none_happened e none)
  | inr same ↦ same
]

-- it is kept
kept_in : (e : Event) (events : List Event) → IsLogged e → Contains events e
    → Contains (without_stops events) e
kept_in e [] logged at = at
kept_in e (Take v t ∷ events) logged at =
    elim (Contains-append_cases (Take v t ∷ []) events e at) [
      | inl here ↦ Contains-append_left (Take v t ∷ []) (without_stops events) e here
      | inr there ↦ Contains-append_right (Take v t ∷ []) (without_stops events) e
          (kept_in e events logged there)
    ]
kept_in e (Done v t o ∷ events) logged at =
    elim (Contains-append_cases (Done v t o ∷ []) events e at) [
      | inl here ↦ Contains-append_left (Done v t o ∷ []) (without_stops events) e here
      | inr there ↦ Contains-append_right (Done v t o ∷ []) (without_stops events) e
          (kept_in e events logged there)
    ]
kept_in e (Stop v m ∷ events) logged at =
    elim (Contains-append_cases (Stop v m ∷ []) events e at) [
      | inl here ↦ absurd (subst IsLogged (sym (only (Stop v m) e here)) logged)
      | inr there ↦ kept_in e events logged there
    ]

was_in : (e : Event) (events : List Event) → Contains (without_stops events) e
    → Contains events e
was_in e [] at = at
was_in e (Take v t ∷ events) at =
    elim (Contains-append_cases (Take v t ∷ []) (without_stops events) e at) [
      | inl here ↦ Contains-append_left (Take v t ∷ []) events e here
      | inr there ↦ Contains-append_right (Take v t ∷ []) events e (was_in e events there)
    ]
was_in e (Done v t o ∷ events) at =
    elim (Contains-append_cases (Done v t o ∷ []) (without_stops events) e at) [
      | inl here ↦ Contains-append_left (Done v t o ∷ []) events e here
      | inr there ↦ Contains-append_right (Done v t o ∷ []) events e (was_in e events there)
    ]
was_in e (Stop v m ∷ events) at =
    Contains-append_right (Stop v m ∷ []) events e (was_in e events at)

no_stop : (w m : ℕ) (events : List Event) → Contains (without_stops events) (Stop w m) → ⊥
no_stop w m [] at = none_happened (Stop w m) at
no_stop w m (Take v t ∷ events) at =
    elim (Contains-append_cases (Take v t ∷ []) (without_stops events) (Stop w m) at) [
      | inl here ↦ (let bad : Take v t ≡ Stop w m = only (Take v t) (Stop w m) here in cc)
      | inr there ↦ no_stop w m events there
    ]
no_stop w m (Done v t o ∷ events) at =
    elim (Contains-append_cases (Done v t o ∷ []) (without_stops events) (Stop w m) at) [
      | inl here ↦ (let bad : Done v t o ≡ Stop w m = only (Done v t o) (Stop w m) here in cc)
      | inr there ↦ no_stop w m events there
    ]
no_stop w m (Stop v n ∷ events) at = no_stop w m events at

pub not_stopped : (events : List Event) → IsStopped (without_stops events) → ⊥
not_stopped events stopped = no_stop stopped.0 stopped.1 events stopped.2

moves_unstopped : (c : Course) (events : List Event) (s : ℕ) → CanMove c events s
    → CanMove c (without_stops events) s
moves_unstopped c events s move = elim move [
  | inl sinks ↦ inl (record {
    planned = sinks.planned;
    up = sym (same_standing c events s) ∙ sinks.up;
    fresh = λ taken. sinks.fresh (taken.0, was_in (Take taken.0 s) events taken.1);
    needed_by_none = λ r need. sym (same_standing c events r) ∙ sinks.needed_by_none r need;
  })
  | inr rises ↦ inr (record {
    planned = rises.planned;
    down = sym (same_standing c events s) ∙ rises.down;
    fresh = λ taken. rises.fresh (taken.0, was_in (Take taken.0 s) events taken.1);
    needs_up = λ t need. sym (same_standing c events t) ∙ rises.needs_up t need;
  })
]

take_unstopped : (c : Course) (events : List Event) (w s : ℕ) → IsLegal c events (Take w s)
    → IsLegal c (without_stops events) (Take w s)
take_unstopped c events w s legal = (
  legal.0,
  not_stopped events,
  λ x held. legal.2 x (
    was_in (Take w x) events held.0,
    λ o done. held.1 o (kept_in (Done w x o) events tt done),
  ),
  moves_unstopped c events s legal.3,
)

done_unstopped : (c : Course) (events : List Event) (w s : ℕ) (o : Outcome)
    → IsLegal c events (Done w s o) → IsLegal c (without_stops events) (Done w s o)
done_unstopped c events w s o legal = (
  legal.0,
  (
    kept_in (Take w s) events tt legal.1.0,
    λ p done. legal.1.1 p (was_in (Done w s p) events done),
  ),
)

step : (c : Course) (events : List Event) (e : Event) → IsRun c events
    → IsRun c (without_stops events) → IsLegal c events e
    → IsRun c (without_stops (events ++ e ∷ []))
step c events (Take w s) run before legal = subst (IsRun c) (sym (take_more events w s))
    (run_push c (without_stops events) (Take w s) before (take_unstopped c events w s legal))
step c events (Done w s o) run before legal = subst (IsRun c) (sym (done_more events w s o))
    (run_push c (without_stops events) (Done w s o) before (done_unstopped c events w s o legal))
step c events (Stop w m) run before legal = subst (IsRun c) (sym (stop_more events w m)) before

pub unstopped_run : (c : Course) (events : List Event) → IsRun c events
    → IsRun c (without_stops events)
unstopped_run c events run =
    run_induction c (λ (es : List Event). IsRun c (without_stops es)) (run_empty c)
    (step c) events run
