-- A command whose run was cut short has no fault once its run is ended and stopped.
use Rattle.std.proofs.Common.{List, [], ◌∷◌, ◌++◌}
use Rattle.rc_model.specs.Database.{Database}
use Rattle.rc_model.specs.Line.{Line}
use Rattle.rc_model.specs.declared.Event.{Event}
use Rattle.rc_model.specs.declared.Refusal.{Refusal}
use Rattle.rc_model.specs.declared.Refusal.TheVariants.{BadEvent, NotSettled}
use Rattle.rc_model.specs.Run.{Course, IsSettled, course_of}
use Rattle.rc_model.specs.Headline.{HasRun}
use Rattle.rc_model.specs.Session.{Command, Change, Undo, Redo, Add, Delete, IsEventFault}
use Rattle.rc_model.specs.Session.{IsRunFault}
use Rattle.rc_recovery.specs.Ends.{last_stop, with_ends}
use Rattle.rc_recovery.proofs.Ending.{settled_stopped}
use Rattle.rc_recovery.specs.Recovering.{IsCutShort, called_off}

-- a settled run is no fault
no_fault : (c : Course) (events : List Event) (refusal : Refusal) → IsSettled c events
    → IsEventFault c events refusal → ⊥
no_fault c events (BadEvent place) settled fault = fault.3 (settled.run place fault.0 fault.1)
no_fault c events (NotSettled place) settled fault = fault.1 settled
no_fault c events other settled fault = fault

pub entered : (d : Database) (line : Line) (command : Command) (refusal : Refusal)
    → HasRun command → IsCutShort d line command → IsRunFault d line (called_off command) refusal
    → ⊥
entered d line (Change ask events) refusal runs cut fault =
    let is = cut fault.0 fault.1 fault.2 in
    let c : Course = course_of d.needs fault.0 fault.1 in
    no_fault c (with_ends events ++ last_stop ∷ []) refusal
    (settled_stopped c events is.2.0 is.0 is.1 is.2.1 is.2.2) fault.3
entered d line (Undo limit events) refusal runs cut fault =
    let is = cut fault.0 fault.1 fault.2 in
    let c : Course = course_of d.needs fault.0 fault.1 in
    no_fault c (with_ends events ++ last_stop ∷ []) refusal
    (settled_stopped c events is.2.0 is.0 is.1 is.2.1 is.2.2) fault.3
entered d line (Redo limit events) refusal runs cut fault =
    let is = cut fault.0 fault.1 fault.2 in
    let c : Course = course_of d.needs fault.0 fault.1 in
    no_fault c (with_ends events ++ last_stop ∷ []) refusal
    (settled_stopped c events is.2.0 is.0 is.1 is.2.1 is.2.2) fault.3
entered d line (Add name contents force) refusal runs cut fault = fault.2
entered d line (Delete words force) refusal runs cut fault = fault.2
