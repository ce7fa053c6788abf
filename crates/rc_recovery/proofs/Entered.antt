-- What a session makes of a command that was cut short.
use Rattle.std.proofs.Common.{◌≡◌, ◌≢◌, inl, inr, ℕ, List, [], ◌∷◌, ◌++◌, Option}
use Rattle.std.proofs.Common.{Result, Ok, Err, refl, ap, subst}
use Rattle.rc_model.specs.declared.Event.{Event}
use Rattle.rc_model.specs.declared.Refusal.{Refusal}
use Rattle.rc_model.specs.declared.Refusal.TheVariants.{BadEvent, Memory, NotSettled}
use Rattle.rc_model.specs.Database.{Database}
use Rattle.rc_model.specs.Headline.{HasRun}
use Rattle.rc_model.specs.Line.{Line}
use Rattle.rc_model.specs.Plan.{PlanSets}
use Rattle.rc_model.specs.Run.{Course, IsRun, course_of}
use Rattle.rc_model.specs.Session.{Command, Change, Undo, Redo, Add, Delete, Does, IsEventFault}
use Rattle.rc_model.specs.Session.{IsLineOf, IsOwnFault, IsRunFault, IsTask, Refuses, Reported}
use Rattle.rc_model.specs.Session.{deadline_of, events_of}
use Rattle.rc_session.specs.Commands.{with_events}
use Rattle.rc_session.specs.Holding.{Holding, Obeys}
use Rattle.rc_session.proofs.Excluding.{task_not_own}
use Rattle.rc_session.proofs.Obeying.{own_of}
use Rattle.rc_script.specs.RunLines.{least_limited}
use Rattle.rc_recovery.specs.Ends.{last_stop, with_ends}
use Rattle.rc_recovery.specs.Recovering.{Enters, IsCutShort, IsUnsettled, Recovers, called_off}
use Rattle.rc_recovery.specs.Recovering.{cut_short}
use Rattle.rc_recovery.specs.RunLog.{session_on}
use Rattle.rc_recovery.proofs.Cut.{can_least, least_way}
use Rattle.rc_recovery.proofs.Known.{Laws}

-- what is done is not out of memory
pub is_entered : (old : Holding) (command : Command) (report : Reported) (new : Holding)
    → Recovers old command (Ok report) new → Enters old command (Ok report) new
is_entered old command report new (inl enters) = enters
is_entered old command report new (inr memory) = absurd (let bad = memory.0 in cc)

-- the session is then one on the new line
pub entered_on : (d : Database) (line : Line) (command : Command) (report : Reported)
    (new : Holding) → Enters (session_on d line) command (Ok report) new
    → new ≡ session_on d new.line
entered_on d line command report new (inl cut) = cut.0.2
entered_on d line command report new (inr off) = off.3.2

pub entered_line : Laws → (d : Database) (line : Line) (command : Command) (report : Reported)
    (end : Line) → IsLineOf d line
    → Enters (session_on d line) command (Ok report) (session_on d end) → IsLineOf d end
entered_line laws d line command report end of (inl cut) =
    laws.keeps d line end (cut_short command) (Ok report) of cut.0.1
entered_line laws d line command report end of (inr off) =
    laws.keeps d line end (called_off command) (Ok report) of off.3.1

-- what leaves something to do is refused in the line
unsettled_refused : (d : Database) (line : Line) (command : Command)
    (answer : Result Reported Refusal) → IsUnsettled answer
    → Obeys (session_on d line) command answer (session_on d line)
    → (place : ℕ) × Refuses d line command (NotSettled place)
unsettled_refused d line command answer unsettled obeys =
    let P : Result Reported Refusal → Type 0 =
    λ a. Obeys (session_on d line) command a (session_on d line)
    in
    let refused : P (Err (NotSettled unsettled.0)) = subst P unsettled.1 obeys in
    (unsettled.0, elim refused.0 [ inl own ↦ inl own.1 | inr run ↦ inr run.1 ])

not_both : Laws → (d : Database) (line end : Line) (command : Command) (report : Reported)
    (answer : Result Reported Refusal) → Does d line command report end → IsUnsettled answer
    → Obeys (session_on d line) command answer (session_on d line) → ⊥
not_both laws d line end command report answer does unsettled obeys =
    let refused = unsettled_refused d line command answer unsettled obeys in
    let bad : Ok report ≡ Err (NotSettled refused.0) =
    (laws.one_answer d line end line command (Ok report) (Err (NotSettled refused.0)) does
    (refused.1, refl)).0
    in cc

-- a command is entered in one line
pub one_end : Laws → (d : Database) (line : Line) (command : Command) (r s : Reported) (a b : Line)
    → Enters (session_on d line) command (Ok r) (session_on d a)
    → Enters (session_on d line) command (Ok s) (session_on d b) → a ≡ b
one_end laws d line command r s a b (inl x) (inl y) =
    (laws.one_answer d line a b (cut_short command) (Ok r) (Ok s) x.0.1 y.0.1).1
one_end laws d line command r s a b (inl x) (inr y) =
    absurd (not_both laws d line a (cut_short command) r y.0 x.0.1 y.1 y.2)
one_end laws d line command r s a b (inr x) (inl y) =
    absurd (not_both laws d line b (cut_short command) s x.0 y.0.1 x.1 x.2)
one_end laws d line command r s a b (inr x) (inr y) =
    (laws.one_answer d line a b (called_off command) (Ok r) (Ok s) x.3.1 y.3.1).1

-- a command that asks for a run can be begun under the least limit
own_free : (d : Database) (line : Line) (command : Command) (start : ℕ) (plan : PlanSets)
    (deadline : Option ℕ) (old events : List Event) (r : Refusal)
    → IsTask d line command start plan deadline
    → IsOwnFault d line (with_events (with_events (least_limited command) old) events) r → ⊥
own_free d line (Change ask has) start plan deadline old events r task own =
    task_not_own d line (Change (record ask { limit = 1 }) events) 0 plan (deadline_of 0 1) r
    (can_least d.names line.current.table ask task.0, task.1, refl) own
own_free d line (Undo most has) start plan deadline old events r task own =
    let up = line.current.live in
    let least = least_way up task.0.current.live start most plan deadline task.2 in
    task_not_own d line (Undo 1 events) 0 plan least.0 r (task.0, task.1, least.1) own
own_free d line (Redo most has) start plan deadline old events r task own =
    let up = line.current.live in
    let least = least_way up task.0.current.live start most plan deadline task.2 in
    task_not_own d line (Redo 1 events) 0 plan least.0 r (task.0, task.1, least.1) own
own_free d line (Add name contents force) start plan deadline old events r task own = absurd task
own_free d line (Delete words force) start plan deadline old events r task own = absurd task

-- the events of a run, and ends of what was under way, are refused as unsettled alone
no_event_fault : (c : Course) (events : List Event) (r : Refusal) → IsRun c events
    → ((place : ℕ) → r ≡ NotSettled place → ⊥) → IsEventFault c events r → ⊥
no_event_fault c events (BadEvent place) run settled fault =
    fault.3 (run place fault.0 fault.1)
no_event_fault c events (NotSettled place) run settled fault = settled place refl
no_event_fault c events other run settled fault = fault

no_run_fault : Laws → (d : Database) (line : Line) (command : Command) (r : Refusal)
    → IsCutShort d line command → ((place : ℕ) → r ≡ NotSettled place → ⊥)
    → IsRunFault d line (cut_short command) r → ⊥
no_run_fault laws d line (Change ask events) r cut settled fault =
    let c : Course = course_of d.needs fault.0 fault.1 in
    no_event_fault c (with_ends events) r
    (laws.runs c events (cut fault.0 fault.1 fault.2).0).0 settled fault.3
no_run_fault laws d line (Undo limit events) r cut settled fault =
    let c : Course = course_of d.needs fault.0 fault.1 in
    no_event_fault c (with_ends events) r
    (laws.runs c events (cut fault.0 fault.1 fault.2).0).0 settled fault.3
no_run_fault laws d line (Redo limit events) r cut settled fault =
    let c : Course = course_of d.needs fault.0 fault.1 in
    no_event_fault c (with_ends events) r
    (laws.runs c events (cut fault.0 fault.1 fault.2).0).0 settled fault.3
no_run_fault laws d line (Add name contents force) r cut settled fault = absurd fault.2
no_run_fault laws d line (Delete words force) r cut settled fault = absurd fault.2

-- the logged events of a command are never refused
pub never_refused : Laws → (d : Database) (line : Line) (command : Command) (start : ℕ)
    (plan : PlanSets) (deadline : Option ℕ) (events : List Event) (r : Refusal)
    → IsTask d line command start plan deadline
    → HasRun (with_events (least_limited command) events)
    → IsCutShort d line (with_events (least_limited command) events) → r ≢ Memory
    → Enters (session_on d line) (with_events (least_limited command) events) (Err r)
    (session_on d line) → ⊥
never_refused laws d line command start plan deadline events r task has cut other (inl x) =
    let c : Command = with_events (least_limited command) events in
    let Own = IsOwnFault d line (cut_short c) in
    elim x.0.0 [
      | inl own ↦ own_free d line command start plan deadline events
          (with_ends (events_of c)) r task
          (own_of Own (session_on d line) r refl other own)
      | inr run ↦ no_run_fault laws d line c r cut (λ place is. x.1 (place, ap Err is)) run.1
    ]
never_refused laws d line command start plan deadline events r task has cut other (inr x) =
    let c : Command = with_events (least_limited command) events in
    let Own = IsOwnFault d line (called_off c) in
    elim x.3.0 [
      | inl own ↦ own_free d line command start plan deadline events
          (with_ends (events_of c) ++ last_stop ∷ []) r task
          (own_of Own (session_on d line) r refl other own)
      | inr run ↦ laws.not_refused d line c r has cut run.1
    ]
