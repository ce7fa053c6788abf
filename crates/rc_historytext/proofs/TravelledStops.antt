-- Where an undo and a redo stop, and several steps in a row.
use Rattle.std.proofs.Common.{◌≡◌, ◌∙◌, ◌||◌, inl, inr, ℕ, zero, suc, Bool, true, false, List}
use Rattle.std.proofs.Common.{[], ◌++◌, length, map, Some, arith, sym, ap}
use Rattle.std.proofs.Common.{subst}
use Rattle.std.proofs.lemmas.Bool.{and_cases, and_parts, false≢true, ltb-false, or_parts}
use Rattle.std.proofs.lemmas.Option.{same_Some}
use Rattle.std.proofs.lemmas.List.{nil_from_length}
use Rattle.rc_history.specs.History.{History, IsHistory, all_places, cursor_of, place_in}
use Rattle.rc_history.specs.History.{places_after}
use Rattle.rc_history.specs.Stops.{IsPassedAt, IsStopBack, IsStopOn, Redoes, Undoes}
use Rattle.rc_historytext.specs.Present.{StandingText, StandsAt, crosses, has_inside, passes}
use Rattle.rc_historytext.specs.Travelling.{GoesOn, PassesTo, Travels}
use Rattle.rc_historytext.specs.Places.{GivesHistory}
use Rattle.rc_historytext.proofs.TravelledSteps.{Laws, after_are, before_are, earlier_are}
use Rattle.rc_historytext.proofs.TravelledSteps.{later_are, mark_is, step_back, step_on}

-- no place comes before the current one
none_before : (h : History) → h.earlier ≡ [] → h.present.line.before ≡ [] → cursor_of h ≡ 0
none_before h earlier before =
    λ i. length (all_places (earlier i) ++ map (place_in h.present.base) (before i))

-- none comes after it
none_after : (h : History) → h.later ≡ [] → h.present.line.after ≡ [] → places_after h ≡ []
none_after h later after = λ i. map (place_in h.present.base) (after i) ++ all_places (later i)

module _ (laws : Laws) (h : History) (is : IsHistory h) (marks : List Bool) (bytes : List ℕ)
    (gives : GivesHistory bytes h marks) where
  -- what goes on stands on a place that is passed
  pub goes_passed : (on : Bool) → GoesOn on bytes true → IsPassedAt marks (cursor_of h)
  goes_passed on (at, stands, goes) =
      mark_is laws h is marks bytes gives at stands
      ∙ ap Some (and_parts (passes at) (has_inside on at || crosses on at) (sym goes)).0

  not_passed : (at : StandingText) → StandsAt bytes at → passes at ≡ false
      → IsPassedAt marks (cursor_of h) → ⊥
  not_passed at stands none passed =
      false≢true (sym none
      ∙ same_Some (passes at) true (sym (mark_is laws h is marks bytes gives at stands) ∙ passed))

  -- what does not go on stands on a stop
  pub stops_back : GoesOn false bytes false → IsStopBack marks h
  stops_back (at, stands, goes) =
      elim (and_cases (passes at) (has_inside false at || crosses false at) (sym goes)) [
        | inl none ↦ inl (not_passed at stands none)
        | inr ends ↦
            let both = or_parts (has_inside false at) (crosses false at) ends in
            inr (none_before h
            (nil_from_length h.earlier
            (omega (
              arith,
              ltb-false 0 at.earlier both.1,
              earlier_are laws h is marks bytes gives at stands,
            )))
            (nil_from_length h.present.line.before
            (omega (
              arith,
              ltb-false 0 at.before both.0,
              before_are laws h is marks bytes gives at stands,
            ))))
      ]

  pub stops_on : GoesOn true bytes false → IsStopOn marks h
  stops_on (at, stands, goes) =
      elim (and_cases (passes at) (has_inside true at || crosses true at) (sym goes)) [
        | inl none ↦ inl (not_passed at stands none)
        | inr ends ↦
            let both = or_parts (has_inside true at) (crosses true at) ends in
            inr (none_after h
            (nil_from_length h.later
            (omega (
              arith,
              ltb-false 0 at.later both.1,
              later_are laws h is marks bytes gives at stands,
            )))
            (nil_from_length h.present.line.after
            (omega (
              arith,
              ltb-false 0 at.after both.0,
              after_are laws h is marks bytes gives at stands,
            ))))
      ]

-- several steps, each of which goes on: what is undone from where they lead is undone from their
-- beginning
pub passes_back : (laws : Laws) (n : ℕ) (h : History) (is : IsHistory h) (marks : List Bool)
    (bytes next : List ℕ) → GivesHistory bytes h marks → PassesTo n false bytes next
    → (new : History) × GivesHistory next new marks × IsHistory new
    × ((old : History) → Undoes marks new old → Undoes marks h old)
passes_back laws zero h is marks bytes next gives same = (
  h,
  subst (λ (text : List ℕ). GivesHistory text h marks) (sym same) gives,
  is,
  λ old undoes. undoes,
)
passes_back laws (suc n) h is marks bytes next gives (between, rest, step, goes) =
    let front = passes_back laws n h is marks bytes between gives rest in
    let one = step_back laws front.0 front.2 marks between front.1 next step in (
      one.0,
      one.1,
      one.2,
      λ old undoes.
          front.3 old (
            suc undoes.0,
            (
              one.0,
              one.3,
              goes_passed laws one.0 one.2 marks next one.1 false goes,
              undoes.1,
            ),
          ),
    )

pub travels_back : (laws : Laws) (bytes next : List ℕ) (h : History) (marks : List Bool)
    → IsHistory h → GivesHistory bytes h marks → Travels false bytes next
    → (new : History) × GivesHistory next new marks × IsHistory new × Undoes marks h new
travels_back laws bytes next h marks is gives (n, between, rest, step, ends) =
    let front = passes_back laws n h is marks bytes between gives rest in
    let one = step_back laws front.0 front.2 marks between front.1 next step in (
      one.0,
      one.1,
      one.2,
      front.3 one.0 (0, (one.3, stops_back laws one.0 one.2 marks next one.1 ends)),
    )

-- the same forwards
pub passes_on : (laws : Laws) (n : ℕ) (h : History) (is : IsHistory h) (marks : List Bool)
    (bytes next : List ℕ) → GivesHistory bytes h marks → PassesTo n true bytes next
    → (new : History) × GivesHistory next new marks × IsHistory new
    × ((old : History) → Redoes marks new old → Redoes marks h old)
passes_on laws zero h is marks bytes next gives same = (
  h,
  subst (λ (text : List ℕ). GivesHistory text h marks) (sym same) gives,
  is,
  λ old redoes. redoes,
)
passes_on laws (suc n) h is marks bytes next gives (between, rest, step, goes) =
    let front = passes_on laws n h is marks bytes between gives rest in
    let one = step_on laws front.0 front.2 marks between front.1 next step in (
      one.0,
      one.1,
      one.2,
      λ old redoes.
          front.3 old (
            suc redoes.0,
            (
              one.0,
              one.3,
              goes_passed laws one.0 one.2 marks next one.1 true goes,
              redoes.1,
            ),
          ),
    )

pub travels_on : (laws : Laws) (bytes next : List ℕ) (h : History) (marks : List Bool)
    → IsHistory h → GivesHistory bytes h marks → Travels true bytes next
    → (new : History) × GivesHistory next new marks × IsHistory new × Redoes marks h new
travels_on laws bytes next h marks is gives (n, between, rest, step, ends) =
    let front = passes_on laws n h is marks bytes between gives rest in
    let one = step_on laws front.0 front.2 marks between front.1 next step in (
      one.0,
      one.1,
      one.2,
      front.3 one.0 (0, (one.3, stops_on laws one.0 one.2 marks next one.1 ends)),
    )
