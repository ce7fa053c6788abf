-- A step back that goes well leads to the place before, whether inside a generation or across a
-- border, and a step on to the place after.
use Rattle.std.proofs.Common.{◌≡◌, ◌∙◌, List, [], ◌∷◌, ◌++◌, map, Result}
use Rattle.std.proofs.Common.{inl, inr, ap, sym}
use Rattle.rc_model.specs.declared.Refusal.{Refusal}
use Rattle.rc_model.specs.Database.{Database, IsDatabase}
use Rattle.rc_model.specs.Line.{State, Line, IsNext}
use Rattle.rc_model.specs.Session.{Command, Reported}
use Rattle.rc_model.specs.Session.{IsLineOf}
use Rattle.rc_model.specs.Headline.{WentWell, IsUndo, IsRedo}
use Rattle.rc_session.proofs.Undos.{undo_well, redo_well}
use Rattle.rc_history.specs.History.{Generation, History, Place, place_in, places_of, all_places}
use Rattle.rc_history.specs.History.{places_before, place_now, places_after}
use Rattle.rc_history.specs.Moves.{MovesInside, IsAcross}
use Rattle.rc_history.proofs.Lists.{append_nil, append_three, map_append}
use Rattle.rc_history.proofs.Ends.{next_first, next_last}

-- the second history stands on the place after that of the first
pub record IsAfter (h next : History) : Type 0 where
  pub left : places_before next ≡ places_before h ++ place_now h ∷ []
  pub reached : places_after h ≡ place_now next ∷ places_after next

all_push : (gs : List Generation) (g : Generation) → all_places (gs ++ g ∷ [])
    ≡ all_places gs ++ places_of g
all_push [] g = append_nil (places_of g)
all_push (x ∷ gs) g =
    ap (λ rest. places_of x ++ rest) (all_push gs g)
    ∙ sym (append_three (places_of x) (all_places gs) (places_of g))

-- a border that is crossed
pub across_after : (h next : History) → IsAcross h next → IsAfter h next
across_after h next a =
    let at : Database = h.present.base in
    let line : Line = h.present.line in
    let on : Line = next.present.line in record {
      left =
          ap (λ (before : List State). all_places next.earlier
          ++ map (place_in next.present.base) before)
          a.at_first
          ∙ append_nil (all_places next.earlier) ∙ ap all_places a.left
          ∙ all_push h.earlier h.present
          ∙ ap (λ (after : List State). all_places h.earlier
          ++ map (place_in at) (line.before ++ line.current ∷ after)) a.at_last
          ∙ ap (λ (ps : List Place). all_places h.earlier ++ ps)
          (map_append (place_in at) line.before (line.current ∷ []))
          ∙ sym (append_three (all_places h.earlier) (map (place_in at) line.before)
          (place_in at line.current ∷ []));
      reached =
          ap (λ (after : List State). map (place_in at) after ++ all_places h.later) a.at_last
          ∙ ap all_places a.reached
          ∙ ap (λ (before : List State). map (place_in next.present.base)
          (before ++ on.current ∷ on.after) ++ all_places next.later) a.at_first;
    }

-- a step inside a generation
pub inside_after : (h next : History) → next.present.base ≡ h.present.base
    → IsNext h.present.line next.present.line → next.earlier ≡ h.earlier → next.later ≡ h.later
    → IsAfter h next
inside_after h next base on earlier later =
    let at : Database = h.present.base in
    let line : Line = h.present.line in record {
      left =
          ap (λ (gs : List Generation). all_places gs
          ++ map (place_in next.present.base) next.present.line.before) earlier
          ∙ ap (λ (d : Database). all_places h.earlier ++ map (place_in d) next.present.line.before)
          base
          ∙ ap (λ (before : List State). all_places h.earlier ++ map (place_in at) before) on.left
          ∙ ap (λ (ps : List Place). all_places h.earlier ++ ps)
          (map_append (place_in at) line.before (line.current ∷ []))
          ∙ sym (append_three (all_places h.earlier) (map (place_in at) line.before)
          (place_in at line.current ∷ []));
      reached =
          ap (λ (after : List State). map (place_in at) after ++ all_places h.later) on.reached
          ∙ ap (λ (gs : List Generation). place_in at next.present.line.current
          ∷ (map (place_in at) next.present.line.after ++ all_places gs)) (sym later)
          ∙ ap (λ (d : Database). place_in d next.present.line.current
          ∷ (map (place_in d) next.present.line.after ++ all_places next.later)) (sym base);
    }

-- an undo inside that goes well
pub undo_after : (h new : History) (command : Command) (answer : Result Reported Refusal)
    → IsDatabase h.present.base → IsLineOf h.present.base h.present.line → IsUndo command
    → WentWell answer → MovesInside h command answer new → IsAfter new h
undo_after h new command answer is_db of undo went move =
    let back = undo_well h.present.base is_db h.present.line new.present.line command answer of undo
    went move.answers in
    let first = sym (next_first new.present.line h.present.line back) in
    let last = sym (next_last new.present.line h.present.line back) in
    let earlier : new.earlier ≡ h.earlier = elim move.earlier [
      | inl stays ↦ stays.1
      | inr lost ↦ absurd (lost.0 first)
    ] in
    let later : new.later ≡ h.later = elim move.later [
      | inl stays ↦ stays.1
      | inr lost ↦ absurd (lost.0 (last, inl undo))
    ] in
    inside_after new h (sym move.base) back (sym earlier) (sym later)

-- a redo inside that goes well
pub redo_after : (h new : History) (command : Command) (answer : Result Reported Refusal)
    → IsDatabase h.present.base → IsLineOf h.present.base h.present.line → IsRedo command
    → WentWell answer → MovesInside h command answer new → IsAfter h new
redo_after h new command answer is_db of redo went move =
    let on = redo_well h.present.base is_db h.present.line new.present.line command answer of redo
    went move.answers in
    let first = next_first h.present.line new.present.line on in
    let last = next_last h.present.line new.present.line on in
    let earlier : new.earlier ≡ h.earlier = elim move.earlier [
      | inl stays ↦ stays.1
      | inr lost ↦ absurd (lost.0 first)
    ] in
    let later : new.later ≡ h.later = elim move.later [
      | inl stays ↦ stays.1
      | inr lost ↦ absurd (lost.0 (last, inr (inl redo)))
    ] in
    inside_after h new move.base on earlier later
