-- An undo that goes well stands on the nearest stop before, and a redo on the nearest after.
use Rattle.std.proofs.Common.{◌≡◌, ◌∙◌, ◌≤◌, ◌<◌, ◌-◌, ◌⊎◌, ℕ, zero, suc, Bool, List, Some}
use Rattle.std.proofs.Common.{slice_get}
use Rattle.std.proofs.Common.{inl, inr, ap, sym, subst, arith}
use Rattle.std.proofs.lemmas.Option.{same_Some}
use Rattle.rc_history.specs.History.{History, Place, IsHistory, places, cursor_of, place_now}
use Rattle.rc_history.specs.History.{places_before, places_after}
use Rattle.rc_history.specs.Stops.{IsPassedAt, UndoesPast, RedoesPast, Undoes, Redoes}
use Rattle.rc_history.specs.Stops.{StandsBefore, StandsAfter, OneUndoTakesBack}
use Rattle.rc_history.proofs.Lists.{get_middle}
use Rattle.rc_history.proofs.Restoring.{after_places, after_cursor}
use Rattle.rc_history.proofs.Rows.{back_after, on_after}
use Rattle.rc_history.proofs.TakingBack.{update_adds}

-- the place at the cursor, among places that are the same
at_cursor : (h new : History) → places new ≡ places h
    → slice_get (places h) (cursor_of new) ≡ Some (place_now new)
at_cursor h new same =
    subst (λ (all : List Place). slice_get all (cursor_of new) ≡ Some (place_now new)) same
    (get_middle (places_before new) (place_now new) (places_after new))

order : (a b : ℕ) → a ≤ b → (a < b) ⊎ (a ≡ b)
order zero zero h = inr (omega arith)
order zero (suc b) h = inl (omega arith)
order (suc a) zero h = absurd (omega (arith, h))
order (suc a) (suc b) h = elim (order a b (omega (arith, h))) [
  | inl less ↦ inl (omega (arith, less))
  | inr same ↦ inr (ap suc same)
]

-- what is passed below a place that is passed, and that place
passed_with : (marks : List Bool) (k middle : ℕ) → IsPassedAt marks middle → k ≤ middle
    → (k < middle → IsPassedAt marks k) → IsPassedAt marks k
passed_with marks k middle passed most below = elim (order k middle most) [
  | inl less ↦ below less
  | inr same ↦ subst (IsPassedAt marks) (sym same) passed
]

undoes_past : (marks : List Bool) (n : ℕ) (h new : History) → IsHistory h
    → UndoesPast marks n h new → StandsBefore marks h new
undoes_past marks zero h new of undo =
    let one = (back_after h new of undo.0).0 in
    let at : cursor_of h ≡ suc (cursor_of new) = after_cursor new h one in
    let same : places new ≡ places h = sym (after_places new h one) in record {
      same = same;
      restored = at_cursor h new same;
      before = omega (arith, at);
      between = λ k low high. absurd (omega (arith, at, low, high));
      stop = undo.1;
    }
undoes_past marks (suc n) h new of undo =
    let next = undo.0 in
    let one = back_after h next of undo.1 in
    let rest = undoes_past marks n next new one.1 undo.3 in
    let at : cursor_of h ≡ suc (cursor_of next) = after_cursor next h one.0 in
    let same : places new ≡ places h = rest.same ∙ sym (after_places next h one.0) in record {
      same = same;
      restored = at_cursor h new same;
      before = omega (arith, at, rest.before);
      between =
          λ k low high. passed_with marks k (cursor_of next) undo.2 (omega (arith, at, high))
          (λ less. rest.between k low less);
      stop = rest.stop;
    }

redoes_past : (marks : List Bool) (n : ℕ) (h new : History) → IsHistory h
    → RedoesPast marks n h new → StandsAfter marks h new
redoes_past marks zero h new of redo =
    let one = (on_after h new of redo.0).0 in
    let at : cursor_of new ≡ suc (cursor_of h) = after_cursor h new one in
    let same : places new ≡ places h = after_places h new one in record {
      same = same;
      restored = at_cursor h new same;
      after = omega (arith, at);
      between = λ k low high. absurd (omega (arith, at, low, high));
      stop = redo.1;
    }
redoes_past marks (suc n) h new of redo =
    let next = redo.0 in
    let one = on_after h next of redo.1 in
    let rest = redoes_past marks n next new one.1 redo.3 in
    let at : cursor_of next ≡ suc (cursor_of h) = after_cursor h next one.0 in
    let same : places new ≡ places h = rest.same ∙ after_places h next one.0 in record {
      same = same;
      restored = at_cursor h new same;
      after = omega (arith, at, rest.after);
      between = λ k low high. elim (order (cursor_of next) k (omega (arith, at, low))) [
        | inl less ↦ rest.between k less high
        | inr is ↦ subst (IsPassedAt marks) is redo.2
      ];
      stop = rest.stop;
    }

pub undo_stands : (h new : History) (marks : List Bool) → IsHistory h → Undoes marks h new
    → StandsBefore marks h new
undo_stands h new marks of undo = undoes_past marks undo.0 h new of undo.1

pub redo_stands : (h new : History) (marks : List Bool) → IsHistory h → Redoes marks h new
    → StandsAfter marks h new
redo_stands h new marks of redo = redoes_past marks redo.0 h new of redo.1

-- the nearest stop is where the update began
nearest : (marks : List Bool) (from old end : ℕ)
    → (IsPassedAt marks from → ⊥) ⊎ (from ≡ 0) → from < end → old < end
    → ((k : ℕ) → from < k → k < end → IsPassedAt marks k)
    → ((k : ℕ) → old < k → k < end → IsPassedAt marks k)
    → (IsPassedAt marks old → ⊥) ⊎ (old ≡ 0) → old ≡ from
nearest marks from old end begins low less passed between stop =
    let not_less : old < from → ⊥ = λ is. elim begins [
      | inl free ↦ free (between from is low)
      | inr none ↦ omega (arith, is, none)
    ] in
    let not_more : from < old → ⊥ = λ is. elim stop [
      | inl free ↦ free (passed old is less)
      | inr none ↦ omega (arith, is, none)
    ] in
    let sides : (a b : ℕ) → (a < b → ⊥) → (b < a → ⊥) → a ≡ b = λ a b up down.
    grind (arith, up, down) in
    sides old from not_less not_more

pub one_undo : (h : History) → IsHistory h → OneUndoTakesBack h
one_undo h of list d new u =
    let added = update_adds h list d new of u in (
      added.number,
      added.adds,
      added.some,
      added.few,
      λ marks old passed undo.
          let stands = undo_stands new old marks added.history undo in
          let there : cursor_of old ≡ cursor_of new - added.number =
          nearest marks (cursor_of new - added.number) (cursor_of old) (cursor_of new)
          passed.begins (omega (arith, added.within, added.some)) stands.before passed.between
          stands.between stands.stop in
          let at : slice_get (places new) (cursor_of new - added.number) ≡ Some (place_now old) =
          subst (λ k. slice_get (places new) k ≡ Some (place_now old)) there stands.restored in
          same_Some (place_now old) (place_now h) (sym at ∙ added.place),
    )
