-- Where a service stands after one more event.
use Rattle.std.proofs.Common.{◌≡◌, ◌≢◌, ℕ, ◌⊎◌, inl, inr, List, [], ◌∷◌, ◌++◌, Bool, true, false}
use Rattle.std.proofs.Common.{eqb, eq-eqb, refl, ◌∙◌}
use Rattle.std.proofs.lemmas.Bool.{ne_eqb, cond-true, cond-false, false_from_ne_true}
use Rattle.std.proofs.lemmas.List.Sums.{fold_push}
use Rattle.rc_model.specs.Names.{Has}
use Rattle.rc_model.specs.declared.Standing.{Standing}
use Rattle.rc_model.specs.declared.Standing.TheVariants.{Down, Rising, Up, Sinking}
use Rattle.rc_model.specs.declared.Outcome.{Outcome}
use Rattle.rc_model.specs.declared.Event.{Event}
use Rattle.rc_model.specs.declared.Event.TheVariants.{Take, Done, Stop}
use Rattle.rc_model.specs.Run.{Course, is_success, after_take, after_end, after_event}
use Rattle.rc_model.specs.Run.{standing_at_first, standing_of}

-- one more event
pub standing_push : (c : Course) (events : List Event) (e : Event) (s : ℕ)
    → standing_of c (events ++ e ∷ []) s ≡ after_event s (standing_of c events s) e
standing_push c events e s = fold_push (after_event s) (standing_at_first c s) events e

-- a take of the service itself
pub standing_take_here : (c : Course) (events : List Event) (w s : ℕ)
    → standing_of c (events ++ Take w s ∷ []) s ≡ after_take (standing_of c events s)
standing_take_here c events w s =
    standing_push c events (Take w s) s ∙ cond-true (eqb s s) (after_take (standing_of c events s))
    (standing_of c events s) (eq-eqb s s refl)

-- a take of another service
pub standing_take_other : (c : Course) (events : List Event) (w t s : ℕ) → t ≢ s
    → standing_of c (events ++ Take w t ∷ []) s ≡ standing_of c events s
standing_take_other c events w t s other =
    standing_push c events (Take w t) s ∙ cond-false (eqb t s) (after_take (standing_of c events s))
    (standing_of c events s) (ne_eqb t s other)

-- the end of the service's own transition
pub standing_done_here : (c : Course) (events : List Event) (w s : ℕ) (o : Outcome)
    → standing_of c (events ++ Done w s o ∷ []) s ≡ after_end (is_success o)
    (standing_of c events s)
standing_done_here c events w s o =
    standing_push c events (Done w s o) s
    ∙ cond-true (eqb s s) (after_end (is_success o) (standing_of c events s))
    (standing_of c events s) (eq-eqb s s refl)

-- the end of another service's transition
pub standing_done_other : (c : Course) (events : List Event) (w t s : ℕ) (o : Outcome) → t ≢ s
    → standing_of c (events ++ Done w t o ∷ []) s ≡ standing_of c events s
standing_done_other c events w t s o other =
    standing_push c events (Done w t o) s
    ∙ cond-false (eqb t s) (after_end (is_success o) (standing_of c events s))
    (standing_of c events s) (ne_eqb t s other)

-- a stop moves nothing
pub standing_stop : (c : Course) (events : List Event) (w m s : ℕ)
    → standing_of c (events ++ Stop w m ∷ []) s ≡ standing_of c events s
standing_stop c events w m s = standing_push c events (Stop w m) s

-- what is up at first
pub standing_first_up : (c : Course) (s : ℕ) → Has c.up s → standing_of c [] s ≡ Up
standing_first_up c s has = cond-true _ Up Down has

-- what is not up at first is down
pub standing_first_down : (c : Course) (s : ℕ) → (Has c.up s → ⊥) → standing_of c [] s ≡ Down
standing_first_down c s lacks = cond-false _ Up Down (false_from_ne_true _ lacks)

-- a service is down or not
pub is_down_or_not : (standing : Standing) → (standing ≡ Down) ⊎ (standing ≢ Down)
is_down_or_not Down = inl refl
is_down_or_not Rising = inr (λ e. let bad : Rising ≡ Down = e in cc)
is_down_or_not Up = inr (λ e. let bad : Up ≡ Down = e in cc)
is_down_or_not Sinking = inr (λ e. let bad : Sinking ≡ Down = e in cc)

-- what is up or down stands there after the end of a transition
pub ended_up : (well : Bool) → after_end well Up ≡ Up
ended_up true = refl
ended_up false = refl

pub ended_down : (well : Bool) → after_end well Down ≡ Down
ended_down true = refl
ended_down false = refl
