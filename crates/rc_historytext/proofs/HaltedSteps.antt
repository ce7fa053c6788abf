-- What an undo or a redo leaves that does not go well: whole steps, and then what remains of one
-- more.
use Rattle.std.proofs.Common.{inl, inr, ℕ, Bool, true, false, List, subst}
use Rattle.rc_model.specs.Database.{Database, IsDatabase}
use Rattle.rc_model.specs.Line.{Line}
use Rattle.rc_model.specs.Session.{IsLineOf}
use Rattle.rc_session.proofs.Promising.{promised}
use Rattle.rc_livetext.specs.Spelling.{spelling}
use Rattle.rc_history.specs.History.{History, IsHistory}
use Rattle.rc_history.specs.Stops.{Redoes, Undoes}
use Rattle.rc_historytext.specs.declared.keeping.Keeping.TheVariants.{Way}
use Rattle.rc_historytext.specs.Keeping.{IsKept}
use Rattle.rc_historytext.specs.Places.{GivesHistory}
use Rattle.rc_historytext.specs.Halting.{Halts, LeavesIn, MayDo, Remains, StaysAt}
use Rattle.rc_historytext.proofs.TravelledSteps.{Laws, base_is, line_is}
use Rattle.rc_historytext.proofs.TravelledStops.{passes_back, passes_on}

-- on a line
remains_of : (on : Bool) (d : Database) (line new : Line) → IsDatabase d → IsLineOf d line
    → MayDo d on line new → Remains on line new
remains_of on d line new is of (inl same) = inl same
remains_of false d line new is of (inr (limit, events, report, inl run)) =
    inr (
      run.task.0,
      run.task.1,
      (promised d line is of).remains run.task.0 new limit events report run.task.1 (inl run),
    )
remains_of false d line new is of (inr (limit, events, report, inr edit)) = absurd edit.altered
remains_of true d line new is of (inr (limit, events, report, inl run)) =
    inr (
      run.task.0,
      run.task.1,
      (promised d line is of).remains_ahead run.task.0 new limit events report run.task.1
          (inl run),
    )
remains_of true d line new is of (inr (limit, events, report, inr edit)) = absurd edit.altered

-- in the present generation of a history
stays_in : (laws : Laws) (h : History) (is : IsHistory h) (marks : List Bool) (bytes : List ℕ)
    (gives : GivesHistory bytes h marks) (on : Bool) (next : List ℕ) → StaysAt on bytes next
    → LeavesIn on h marks next
stays_in laws h is marks bytes gives on next (inl same) =
    record { between = bytes; gives = gives; is = is; left = inl same }
stays_in laws h is marks bytes gives on next (inr ended) =
    let base = base_is laws h is marks bytes gives ended.base ended.session ended.there
    ended.is_database ended.writable in
    let line = line_is laws h is marks bytes gives ended.base ended.session ended.line ended.there
    ended.is_database ended.writable ended.is_line ended.begins in
    record {
      between = bytes;
      gives = gives;
      is = is;
      left = inr (
        ended.new,
        subst (λ (d : Database). IsKept Way bytes (spelling d ended.new) next) base ended.kept,
        subst (λ (l : Line). Remains on l ended.new) line
            (remains_of on ended.base ended.line ended.new ended.is_database ended.is_line
            ended.left),
      );
    }

-- behind whole steps
pub halts_back : (laws : Laws) (bytes next : List ℕ) (h : History) (marks : List Bool)
    → IsHistory h → GivesHistory bytes h marks → Halts false bytes next
    → (there : History) × LeavesIn false there marks next
    × ((old : History) → Undoes marks there old → Undoes marks h old)
halts_back laws bytes next h marks is gives (n, between, rest, stays) =
    let front = passes_back laws n h is marks bytes between gives rest in (
      front.0,
      stays_in laws front.0 front.2 marks between front.1 false next stays,
      front.3,
    )

pub halts_on : (laws : Laws) (bytes next : List ℕ) (h : History) (marks : List Bool)
    → IsHistory h → GivesHistory bytes h marks → Halts true bytes next
    → (there : History) × LeavesIn true there marks next
    × ((old : History) → Redoes marks there old → Redoes marks h old)
halts_on laws bytes next h marks is gives (n, between, rest, stays) =
    let front = passes_on laws n h is marks bytes between gives rest in (
      front.0,
      stays_in laws front.0 front.2 marks between front.1 true next stays,
      front.3,
    )
