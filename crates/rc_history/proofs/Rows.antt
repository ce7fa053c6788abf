-- Several steps in a row.
use Rattle.std.proofs.Common.{◌≡◌, ◌∙◌, ◌+◌, ◌-◌, ℕ, zero, suc, List, Some}
use Rattle.std.proofs.Common.{slice_get, inl, inr, ap, sym, subst, arith}
use Rattle.rc_history.specs.History.{History, Place, IsHistory, places, cursor_of, place_now}
use Rattle.rc_history.specs.History.{places_before, places_after}
use Rattle.rc_history.specs.Moves.{StepsBack, StepsOn, SeveralBack, SeveralOn}
use Rattle.rc_history.specs.Promises.{IsRestored, StepsBackRestore, StepsOnRestore}
use Rattle.rc_history.proofs.Lists.{get_middle}
use Rattle.rc_history.proofs.Crossing.{on_keeps, back_keeps}
use Rattle.rc_history.proofs.Inside.{present_of, inside_keeps}
use Rattle.rc_history.proofs.Stepping.{IsAfter, across_after, undo_after, redo_after}
use Rattle.rc_history.proofs.Restoring.{after_places, after_cursor}

-- a step back leads to the place before, and to a history
pub back_after : (h new : History) → IsHistory h → StepsBack h new → IsAfter new h × IsHistory new
back_after h new of step = elim step [
  | inl across ↦ (across_after new h across, back_keeps new h across of)
  | inr inside ↦ (
    undo_after h new inside.0 inside.1 (present_of h of).database (present_of h of).line inside.2
        inside.3 inside.4,
    inside_keeps h new of inside.0 inside.1 inside.4,
  )
]

pub on_after : (h new : History) → IsHistory h → StepsOn h new → IsAfter h new × IsHistory new
on_after h new of step = elim step [
  | inl across ↦ (across_after h new across, on_keeps h new across of)
  | inr inside ↦ (
    redo_after h new inside.0 inside.1 (present_of h of).database (present_of h of).line inside.2
        inside.3 inside.4,
    inside_keeps h new of inside.0 inside.1 inside.4,
  )
]

several_back : (n : ℕ) (h new : History) → IsHistory h → SeveralBack n h new
    → (places new ≡ places h) × (cursor_of h ≡ cursor_of new + n)
several_back zero h new of same = (
  ap places same,
  (let one : cursor_of new ≡ cursor_of h = ap cursor_of same in omega (arith, one)),
)
several_back (suc n) h new of steps =
    let next = steps.0 in
    let one = back_after h next of steps.1 in
    let rest = several_back n next new one.1 steps.2 in
    let here : cursor_of h ≡ suc (cursor_of next) = after_cursor next h one.0 in
    let there : cursor_of next ≡ cursor_of new + n = rest.1 in
    (rest.0 ∙ sym (after_places next h one.0), omega (arith, here, there))

several_on : (n : ℕ) (h new : History) → IsHistory h → SeveralOn n h new
    → (places new ≡ places h) × (cursor_of new ≡ cursor_of h + n)
several_on zero h new of same = (
  ap places same,
  (let one : cursor_of new ≡ cursor_of h = ap cursor_of same in omega (arith, one)),
)
several_on (suc n) h new of steps =
    let next = steps.0 in
    let one = on_after h next of steps.1 in
    let rest = several_on n next new one.1 steps.2 in
    let here : cursor_of next ≡ suc (cursor_of h) = after_cursor h next one.0 in
    let there : cursor_of new ≡ cursor_of next + n = rest.1 in
    (rest.0 ∙ after_places h next one.0, omega (arith, here, there))

-- the same places with the cursor at another one
moved_to : (h new : History) (place : ℕ) → places new ≡ places h → cursor_of new ≡ place
    → IsRestored h new place
moved_to h new place same there = record {
  same = same;
  there = there;
  restored =
      subst (λ k. slice_get (places h) k ≡ Some (place_now new)) there
      (subst (λ (all : List Place). slice_get all (cursor_of new) ≡ Some (place_now new)) same
      (get_middle (places_before new) (place_now new) (places_after new)));
}

pub steps_back_restore : (h : History) → IsHistory h → StepsBackRestore h
steps_back_restore h of n new steps =
    let went = several_back n h new of steps in
    let at : cursor_of h ≡ cursor_of new + n = went.1 in
    (omega (arith, at), moved_to h new (cursor_of h - n) went.0 (omega (arith, at)))

pub steps_on_restore : (h : History) → IsHistory h → StepsOnRestore h
steps_on_restore h of n new steps =
    let went = several_on n h new of steps in
    moved_to h new (cursor_of h + n) went.0 went.1
