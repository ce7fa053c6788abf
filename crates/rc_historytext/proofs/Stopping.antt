-- Where a line is missing, reading is stuck.
use Rattle.std.proofs.Common.{◌≡◌, ◌∙◌, ℕ, List, [], ◌∷◌, ◌++◌, length, refl, sym, ap}
use Rattle.std.proofs.Common.{subst, append_assoc}
use Rattle.std.proofs.lemmas.List.{append-nil}
use Rattle.rc_dbtext.specs.Form.{spells}
use Rattle.rc_dbtext.proofs.Stuck.{spells-append}
use Rattle.rc_historytext.specs.declared.lines.LineFault.{LineFault}
use Rattle.rc_historytext.specs.declared.lines.LineFault.TheVariants.{Missing, Memory}
use Rattle.rc_historytext.specs.Text.{Line, history_lines, spell}
use Rattle.rc_historytext.specs.Faults.{IsStuckAt}
use Rattle.rc_historytext.specs.Due.{Place, AtFirst, IsDue, AreDue, behind, place_after, NoneDue}
use Rattle.rc_historytext.specs.Due.{StopsAt, Stops}
use Rattle.rc_historytext.specs.Standing.{Stands}
use Rattle.rc_historytext.proofs.Once.{no_front}
use Rattle.rc_historytext.proofs.Rows.{Leads, due_join, place_join, history_leads}
use Rattle.rc_historytext.proofs.Rests.{IsRest, rest_cons, rest_onto, some_rest}

-- a line that is due is missing here
pub stops_here : (p : Place) (due : Line) (bytes : List ℕ) → IsDue p due → NoneDue p bytes
    → StopsAt p bytes (length bytes)
stops_here p due bytes is none = record {
  before = [];
  due = due;
  rest = bytes;
  are_due = tt;
  is_due = is;
  front = refl;
  size = refl;
  none = none;
}

-- or after lines that were read
pub stops_behind : (p q : Place) (ls : List Line) (bytes middle : List ℕ) (fault : LineFault)
    → Leads p ls q → bytes ≡ spells spell ls ++ middle → Stops q middle fault → Stops p bytes fault
stops_behind p q ls bytes middle Memory leads front stops = tt
stops_behind p q ls bytes middle (Missing left) leads front stops =
    let there : place_after p ls ≡ q = leads.there in
    let before : AreDue (place_after p ls) stops.before =
    subst (λ (place : Place). AreDue place stops.before) (sym there) stops.are_due in
    let at : place_after p (ls ++ stops.before) ≡ place_after q stops.before =
    place_join p ls stops.before
    ∙ ap (λ (place : Place). place_after place stops.before) there in
    record {
      before = ls ++ stops.before;
      due = stops.due;
      rest = stops.rest;
      are_due = due_join p ls stops.before leads.due before;
      is_due = subst (λ (place : Place). IsDue place stops.due) (sym at) stops.is_due;
      front =
          front ∙ ap (λ (l : List ℕ). spells spell ls ++ l) stops.front
          ∙ sym (append_assoc (spells spell ls) (spells spell stops.before) stops.rest)
          ∙ ap (λ (l : List ℕ). l ++ stops.rest) (sym (spells-append spell ls stops.before));
      size = stops.size;
      none = subst (λ (place : Place). NoneDue place stops.rest) (sym at) stops.none;
    }

-- so reading is stuck there
pub stuck_there : (bytes : List ℕ) (left : ℕ) (stops : StopsAt AtFirst bytes left)
    → IsStuckAt bytes stops.rest stops.due
stuck_there bytes left stops =
    let after = some_rest (behind (place_after AtFirst stops.before) stops.due) in
    let found : IsRest AtFirst (stops.before ++ stops.due ∷ after.0) =
    rest_onto AtFirst stops.before (stops.due ∷ after.0) stops.are_due
    (rest_cons (place_after AtFirst stops.before) stops.due after.0 stops.is_due after.1) in
    record {
      value = found.0;
      before = stops.before;
      after = after.0;
      is = found.1;
      parts = sym found.2;
      front = stops.front;
      none = λ other tail is same.
          let leads = history_leads other is in
          no_front AtFirst stops.before (history_lines other) stops.due stops.rest tail
          stops.are_due stops.is_due stops.none leads.due leads.there (sym stops.front ∙ same);
    }

-- or after one line
pub stops_one : (p : Place) (l : Line) (bytes rest : List ℕ) (fault : LineFault) → IsDue p l
    → Stands bytes l rest → Stops (behind p l) rest fault → Stops p bytes fault
stops_one p l bytes rest fault due stands stops =
    stops_behind p (behind p l) (l ∷ []) bytes rest fault
    (record { due = (due, tt); there = refl })
    (stands ∙ ap (λ (t : List ℕ). t ++ rest) (sym (append-nil (spell l)))) stops
