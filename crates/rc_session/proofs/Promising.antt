-- The headline for one command and for many: what is promised holds of each line of a database.
use Rattle.std.proofs.Common.{◌≡◌, ◌∙◌, Bool, List, take, Result, inl, inr, ap, sym, subst}
use Rattle.rc_model.specs.Names.{Holds}
use Rattle.rc_model.specs.Run.{course_of, IsStrictlyClosed}
use Rattle.rc_model.proofs.StrictLemmas.{prefix_strict}
use Rattle.rc_model.specs.Database.{Database, IsDatabase}
use Rattle.rc_model.specs.Line.{Line, with_live, put_between}
use Rattle.rc_model.proofs.Fitting.{fitted_current}
use Rattle.rc_model.specs.declared.Refusal.{Refusal}
use Rattle.rc_model.specs.Session.{Command, Change, Undo, Redo, Add, Delete, events_of, Reported}
use Rattle.rc_model.specs.Session.{EndsWith, MovesBy, DoesByRun, DoesByEdit, IsLineOf, Plays}
use Rattle.rc_model.specs.Headline.{TargetOfCommand, RanInOrder, RunsAreOrderly, IsPromised}
use Rattle.rc_model.specs.Headline.{IsPromisedAllAlong, HasRun}
use Rattle.rc_session.proofs.Keeping.{task_opening, opening_closed, plays_keep}
use Rattle.rc_session.proofs.Entering.{ends_in, change_entered, edit_entered}
use Rattle.rc_session.proofs.Arriving.{ends_as_asked}
use Rattle.rc_session.proofs.Splits.{undo_leaves}
use Rattle.rc_session.proofs.Undos.{undos_restore, redos_restore}
use Rattle.rc_session.proofs.History.{history_kept}
use Rattle.rc_session.proofs.FailedWays.{redo_leaves, undos_go_on, redos_go_on}
use Rattle.rc_session.proofs.Playing.{play_parts}

-- the new state has what is live after the run
pub moved_live : (line : Line) (command : Command) (live : List Bool) (new : Line)
    → MovesBy line command live new → new.current.live ≡ live
moved_live line (Change ask events) live new moved =
    ap (λ s. s.live) (ends_in line new (with_live line live) moved)
moved_live line (Undo limit events) live new u = elim u.2 [
  | inl there ↦ ap (λ l. l.current.live) there.1 ∙ sym there.0
  | inr other ↦ elim other [
    | inl here ↦ ap (λ l. l.current.live) here.2 ∙ sym here.1
    | inr between ↦
        ap (λ l. l.current.live) between.2
        ∙ ap (λ s. s.live) (fitted_current (put_between u.0 (with_live line live) line))
  ]
]
moved_live line (Redo limit events) live new r = elim r.2 [
  | inl there ↦ ap (λ l. l.current.live) there.1 ∙ sym there.0
  | inr other ↦ elim other [
    | inl here ↦ ap (λ l. l.current.live) here.2 ∙ sym here.1
    | inr between ↦
        ap (λ l. l.current.live) between.2
        ∙ ap (λ s. s.live) (fitted_current (put_between line (with_live line live) r.0))
  ]
]
moved_live line (Add name contents force) live new moved = absurd moved
moved_live line (Delete words force) live new moved = absurd moved

-- an edit is no run
pub no_edit_run : (d : Database) (line new : Line) (command : Command) (told : Reported)
    → HasRun command → DoesByEdit d line command told new → ⊥
no_edit_run d line new (Change ask events) told has edit = edit.altered
no_edit_run d line new (Undo limit events) told has edit = edit.altered
no_edit_run d line new (Redo limit events) told has edit = edit.altered
no_edit_run d line new (Add name contents force) told has edit = has
no_edit_run d line new (Delete words force) told has edit = has

ran_in_order : (d : Database) (line new : Line) (command : Command) (told : Reported) → IsDatabase d
    → IsLineOf d line → DoesByRun d line command told new → RanInOrder d line command told new
ran_in_order d line new command told is_db of run =
    let c = course_of d.needs run.plan run.deadline in
    let opening = task_opening d line command 0 run.plan run.deadline run.task in
    let live_is : new.current.live ≡ run.live = moved_live line command run.live new run.moved in
    record {
      plan = run.plan;
      deadline = run.deadline;
      task = run.task;
      given = run.is_report.trace;
      ends =
          subst (λ live. EndsWith c told.trace live) (sym live_is)
          (subst (λ events. EndsWith c events run.live) (sym run.is_report.trace) run.ends);
      strict = λ k. subst (λ events. IsStrictlyClosed c (take k events)) (sym run.is_report.trace)
          (prefix_strict c (events_of command) k (opening_closed d line of run.plan opening)
          run.ends.settled.run);
      arrives = λ failed stopped. subst (λ live. Holds live (TargetOfCommand d line command))
          (sym live_is)
          (ends_as_asked d line command run.plan run.deadline (events_of command) run.live told
          is_db of run.task run.ends run.is_report failed stopped);
    }

pub runs_orderly : (d : Database) (line : Line) → IsDatabase d → IsLineOf d line
    → RunsAreOrderly d line
runs_orderly d line is_db of command told new has does = elim does [
  | inl run ↦ ran_in_order d line new command told is_db of run
  | inr edit ↦ absurd (no_edit_run d line new command told has edit)
]

pub promised : (d : Database) (line : Line) → IsDatabase d → IsLineOf d line → IsPromised d line
promised d line is_db of = record {
  orderly = runs_orderly d line is_db of;
  changes = change_entered d line of;
  edits = edit_entered d line of;
  history = history_kept d line of;
  undos = undos_restore d is_db line of;
  redos = redos_restore d is_db line of;
  remains = undo_leaves d line of;
  remains_ahead = redo_leaves d line of;
  undos_go_on = undos_go_on d is_db line of;
  redos_go_on = redos_go_on d is_db line of;
}

pub all_along : (d : Database) (line new : Line) (commands : List Command)
    (answers : List (Result Reported Refusal)) → IsDatabase d → IsLineOf d line
    → Plays d line commands answers new → IsPromisedAllAlong d line commands answers new
all_along d line new commands answers is_db of plays k =
    let parts = play_parts d k commands answers line new plays in
    let here_of : IsLineOf d parts.0 =
    plays_keep d (take k commands) (take k answers) line parts.0 of parts.1 in
    (parts.0, here_of, parts.1, parts.2, promised d parts.0 is_db here_of)
