-- Where there is a place before the current one, a step back can go well; and so forwards.
use Rattle.std.proofs.Common.{◌≡◌, ◌≢◌, ◌∙◌, suc, List, [], ◌∷◌, ◌++◌, length, map, All, Ok, inl}
use Rattle.std.proofs.Common.{inr}
use Rattle.std.proofs.Common.{refl, ap, sym, subst, arith}
use Rattle.rc_model.specs.Line.{State}
use Rattle.rc_model.specs.Session.{Undo, Redo}
use Rattle.rc_model.proofs.Lists.{all_between}
use Rattle.rc_session.proofs.WaysBack.{ways_back, ways_on}
use Rattle.rc_history.specs.History.{Generation, History, IsHistory, IsLeft, IsAhead, cursor_of}
use Rattle.rc_history.specs.History.{all_places, place_in, places_after}
use Rattle.rc_history.specs.Moves.{StepsBack, StepsOn}
use Rattle.rc_history.specs.Promises.{CanStepBack, CanStepOn}
use Rattle.rc_history.proofs.Ends.{next_first, next_last}
use Rattle.rc_history.proofs.Inside.{present_of}

none_is_some : {X : Type 0} (x : X) (xs : List X) → x ∷ xs ≢ []
none_is_some x xs same = let lengths : suc (length xs) ≡ 0 = ap length same in
    absurd (omega (arith, lengths))

-- the last of some
split_last : (g : Generation) (gs : List Generation)
    → (front : List Generation) × (last : Generation) × (g ∷ gs ≡ front ++ last ∷ [])
split_last g [] = ([], g, refl)
split_last g (x ∷ gs) = let rest = split_last x gs in
    (g ∷ rest.0, rest.1, ap (λ xs. g ∷ xs) rest.2)

step_back_inside : (h : History) → IsHistory h → h.present.line.before ≢ []
    → (new : History) × StepsBack h new
step_back_inside h of some =
    let is = present_of h of in
    let way = ways_back h.present.base h.present.line is.database is.line 0 some in
    let new : History = record {
      earlier = h.earlier;
      present = record h.present { line = way.0 };
      later = h.later;
    } in (
      new,
      inr (
        Undo 0 way.2.0,
        Ok way.2.1,
        tt,
        way.2.3,
        record {
          answers = way.2.2;
          base = refl;
          by = refl;
          earlier = inl (sym (next_first way.0 h.present.line way.1), refl);
          later = inl ((sym (next_last way.0 h.present.line way.1), inl tt), refl);
        },
      ),
    )

step_on_inside : (h : History) → IsHistory h → h.present.line.after ≢ []
    → (new : History) × StepsOn h new
step_on_inside h of some =
    let is = present_of h of in
    let way = ways_on h.present.base h.present.line is.database is.line 0 some in
    let new : History = record {
      earlier = h.earlier;
      present = record h.present { line = way.0 };
      later = h.later;
    } in (
      new,
      inr (
        Redo 0 way.2.0,
        Ok way.2.1,
        tt,
        way.2.3,
        record {
          answers = way.2.2;
          base = refl;
          by = refl;
          earlier = inl (next_first h.present.line way.0 way.1, refl);
          later = inl ((next_last h.present.line way.0 way.1, inr (inl tt)), refl);
        },
      ),
    )

step_across : (h : History) → IsHistory h → h.present.line.before ≡ []
    → (earlier : List Generation) → h.earlier ≡ earlier → cursor_of h ≢ 0
    → (new : History) × StepsBack h new
step_across h of first [] same some = absurd (some
    (ap (λ (gs : List Generation). length (all_places gs
    ++ map (place_in h.present.base) h.present.line.before)) same
    ∙ ap (λ (before : List State). length (map (place_in h.present.base) before)) first))
step_across h of first (g ∷ gs) same some =
    let split = split_last g gs in
    let is : h.earlier ≡ split.0 ++ split.1 ∷ [] = same ∙ split.2 in
    let new : History = record {
      earlier = split.0;
      present = split.1;
      later = h.present ∷ h.later;
    } in (
      new,
      inl (record {
        left = is;
        reached = refl;
        at_last = all_between IsLeft split.0 split.1 [] (subst (All IsLeft) is of.left);
        at_first = first;
      }),
    )

step_across_on : (h : History) → IsHistory h → h.present.line.after ≡ []
    → (later : List Generation) → h.later ≡ later → places_after h ≢ []
    → (new : History) × StepsOn h new
step_across_on h of last [] same some = absurd (some
    (ap (λ (gs : List Generation). map (place_in h.present.base) h.present.line.after
    ++ all_places gs) same
    ∙ ap (λ (after : List State). map (place_in h.present.base) after ++ []) last))
step_across_on h of last (g ∷ gs) same some =
    let new : History = record {
      earlier = h.earlier ++ h.present ∷ [];
      present = g;
      later = gs;
    } in (
      new,
      inl (record {
        left = refl;
        reached = same;
        at_last = last;
        at_first = all_between IsAhead [] g gs (subst (All IsAhead) same of.ahead);
      }),
    )

back_from : (h : History) → IsHistory h → (before : List State) → h.present.line.before ≡ before
    → cursor_of h ≢ 0 → (new : History) × StepsBack h new
back_from h of [] same some = step_across h of same h.earlier refl some
back_from h of (s ∷ rest) same some =
    step_back_inside h of (λ none. none_is_some s rest (sym same ∙ none))

on_from : (h : History) → IsHistory h → (after : List State) → h.present.line.after ≡ after
    → places_after h ≢ [] → (new : History) × StepsOn h new
on_from h of [] same some = step_across_on h of same h.later refl some
on_from h of (s ∷ rest) same some =
    step_on_inside h of (λ none. none_is_some s rest (sym same ∙ none))

pub can_step_back : (h : History) → IsHistory h → CanStepBack h
can_step_back h of some = back_from h of h.present.line.before refl some

pub can_step_on : (h : History) → IsHistory h → CanStepOn h
can_step_on h of some = on_from h of h.present.line.after refl some
