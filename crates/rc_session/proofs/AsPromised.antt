-- What is done is as promised.
use Rattle.std.proofs.Common.{◌≡◌, Bool, Result, Ok, Err, IfOk, inl, inr, subst}
use Rattle.rc_model.specs.Database.{Database, IsDatabase}
use Rattle.rc_model.specs.Line.{Line}
use Rattle.rc_line.specs.Opening.{Journal}
use Rattle.rc_model.specs.declared.Refusal.{Refusal}
use Rattle.rc_session.specs.declared.report.Report.{Report}
use Rattle.rc_model.specs.Session.{Command, Change, Undo, Redo, Add, Delete, Reported, Does}
use Rattle.rc_model.specs.Session.{IsLineOf}
use Rattle.rc_session.specs.Report.{told_of, answer_of}
use Rattle.rc_session.specs.Holding.{Holding, Obeys, with_run}
use Rattle.rc_model.specs.Beside.{EndsAsPromised, IsDoneAsPromised}
use Rattle.rc_session.proofs.Entering.{change_entered, edit_entered}
use Rattle.rc_session.proofs.FailedWays.{redo_leaves}
use Rattle.rc_session.proofs.History.{history_kept}
use Rattle.rc_session.proofs.Neighbours.{one_back, one_on}
use Rattle.rc_session.proofs.Opened.{holding}
use Rattle.rc_session.proofs.Promising.{runs_orderly}
use Rattle.rc_session.proofs.Splits.{undo_leaves}
use Rattle.rc_session.proofs.Undos.{undo_well, redo_well}

module _ (d : Database) (line : Line) (is_db : IsDatabase d) (of : IsLineOf d line) where
  ends_there : (command : Command) (told : Reported) (new : Line) → Does d line command told new
      → EndsAsPromised line command told new
  ends_there (Change ask events) told new does = change_entered d line of ask events told new does
  ends_there (Undo limit events) told new does = λ back h. (
    λ well. one_back new back line
        (undo_well d is_db line new (Undo limit events) (Ok told) of tt well does) h,
    undo_leaves d line of back new limit events told h does,
  )
  ends_there (Redo limit events) told new does = λ on h. (
    λ well. one_on line new on
        (redo_well d is_db line new (Redo limit events) (Ok told) of tt well does) h,
    redo_leaves d line of on new limit events told h does,
  )
  ends_there (Add name contents force) told new does = elim does [
    | inl run ↦ absurd run.task
    | inr makes ↦ edit_entered d line of (Add name contents force) told new makes
  ]
  ends_there (Delete words force) told new does = elim does [
    | inl run ↦ absurd run.task
    | inr makes ↦ edit_entered d line of (Delete words force) told new makes
  ]

  pub as_promised : (command : Command) (told : Reported) (new : Line)
      → Does d line command told new → IsDoneAsPromised d line command told new
  as_promised command told new does = record {
    orderly = λ has. runs_orderly d line is_db of command told new has does;
    ends = ends_there command told new does;
    history = history_kept d line of command told new does;
  }

-- so is what a session answers, where its database and its line are known
pub done_as_promised : (old new : Holding) (command : Command) (told : Reported)
    → IsDatabase old.database → IsLineOf old.database old.line → Obeys old command (Ok told) new →
    IsDoneAsPromised old.database old.line command told new.line
done_as_promised old new command told is_db of obeys =
    as_promised old.database old.line is_db of command told new.line obeys.1

pub answered_as_promised : (old new : Holding) (command : Command) (result : Result Report Refusal)
    → IsDatabase old.database → IsLineOf old.database old.line
    → Obeys old command (answer_of result) new →
    IfOk result (λ report. IsDoneAsPromised old.database old.line command (told_of report) new.line)
answered_as_promised old new command (Ok report) is_db of obeys =
    done_as_promised old new command (told_of report) is_db of obeys
answered_as_promised old new command (Err refusal) is_db of obeys = tt

-- also where they are known from a run that was begun on
pub begun_as_promised : (old mid new : Holding) (command : Command) (result : Result Report Refusal)
    → mid ≡ with_run old → IsDatabase mid.database → IsLineOf mid.database mid.line
    → Obeys old command (answer_of result) new →
    IfOk result (λ report. IsDoneAsPromised old.database old.line command (told_of report) new.line)
begun_as_promised old mid new command result same is_db of obeys =
    answered_as_promised old new command result
    (subst (λ (h : Holding). IsDatabase h.database) same is_db)
    (subst (λ (h : Holding). IsLineOf h.database h.line) same of) obeys

-- and where a session shows what it has
pub shown_as_promised : (h : Holding) (d : Database) (journal : Journal) (spoiled : Bool)
    → holding d journal spoiled ≡ h → IsDatabase d → IsLineOf d journal.line →
    (new : Line) (command : Command) (told : Reported) → Does h.database h.line command told new
    → IsDoneAsPromised h.database h.line command told new
shown_as_promised h d journal spoiled view is_db of new command told does =
    as_promised h.database h.line (subst (λ (held : Holding). IsDatabase held.database) view is_db)
    (subst (λ (held : Holding). IsLineOf held.database held.line) view of) command told new does
