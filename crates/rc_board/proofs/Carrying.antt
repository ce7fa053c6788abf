-- A run that workers made completes its command; why one that was begun is not made.
use Rattle.std.proofs.Common.{◌≡◌, ◌∙◌, ℕ, Bool, false, List, [], Option, Result, Ok, Err, IfErr}
use Rattle.std.proofs.Common.{ap, sym, subst}
use Rattle.rc_graph.specs.declared.Way.{Way}
use Rattle.rc_model.specs.Plan.{PlanSets}
use Rattle.rc_model.specs.declared.Outcome.{Outcome}
use Rattle.rc_model.specs.declared.Event.{Event}
use Rattle.rc_model.specs.Run.{Course, IsPlanned, course_of, IsSettled}
use Rattle.rc_core.specs.Settled.{RunSoFar}
use Rattle.rc_model.specs.declared.Refusal.{Refusal}
use Rattle.rc_model.specs.Session.{Command, Reported}
use Rattle.rc_model.specs.Session.{DoesByRun}
use Rattle.rc_session.specs.Commands.{with_events}
use Rattle.rc_session.specs.Holding.{Holding, Task, IsBegun, with_run, with_line}
use Rattle.rc_session.proofs.Completing.{events_given}
use Rattle.rc_session.proofs.Excluding.{task_not_own}
use Rattle.rc_session.proofs.Keeping.{task_opening}
use Rattle.rc_board.specs.declared.fault.Fault.{Fault}
use Rattle.rc_board.specs.declared.fault.Fault.TheVariants.{Workers, NoThread, Strange, Refused}
use Rattle.rc_board.specs.Crew.{IsCrew}
use Rattle.rc_board.specs.Made.{AreMade, AreMadeInTime, AreTimely}
use Rattle.rc_board.proofs.Making.{made_at_all, made_timely}
use Rattle.rc_board.specs.Halting.{IsHaltOf}
use Rattle.rc_board.specs.Working.{IsCarriedOut, IsFault, CanBegin}

-- a run that was made, and a command that was completed with it
pub carried : (workers start : ℕ) (Answers : ℕ → Way → Outcome → Type 0) (Gives : ℕ → Type 0)
    (h new : Holding) (command : Command) (task : Task) (run : RunSoFar) (told : Reported)
    → IsCrew workers → h.spoiled ≡ false → IsBegun h command start task → Gives start →
    IsSettled (course_of h.database.needs task.plan task.deadline) run.events
    → AreMadeInTime workers Answers Gives task.deadline task.plan.opening run.events
    → DoesByRun h.database h.line (with_events command run.events) told new.line
    → new ≡ with_line h new.line →
    (((s : ℕ) → IsPlanned (course_of h.database.needs task.plan task.deadline) s → ⊥)
    → run.events ≡ []) → IsCarriedOut workers Answers Gives (with_line h h.line) command told new
carried workers start Answers Gives h new command task run told crew whole begun given settled made
    runs same idle =
    let c : Course = course_of h.database.needs task.plan task.deadline in
    let trace : told.trace ≡ run.events =
    runs.is_report.trace ∙ events_given command task.opening.aim run.events begun.aims in
    let up : task.plan.opening ≡ h.line.current.live =
    task_opening h.database h.line command start task.plan task.deadline begun.asked in
    record {
      crew = crew;
      whole = whole;
      start = start;
      given = given;
      plan = task.plan;
      deadline = task.deadline;
      task = begun.asked;
      settled = subst (λ (es : List Event). IsSettled c es) (sym trace) settled;
      idle = λ none. trace ∙ idle none;
      made =
          subst (λ (es : List Event). AreMade workers Answers Gives h.line.current.live es)
          (sym trace)
          (subst (λ (set : List Bool). AreMade workers Answers Gives set run.events) up
          (made_at_all workers Answers Gives task.deadline task.plan.opening run.events made));
      timely = subst (λ (es : List Event). AreTimely Gives task.deadline es) (sym trace)
          (made_timely workers Answers Gives task.deadline task.plan.opening run.events made);
      runs =
          subst (λ (es : List Event). DoesByRun h.database h.line (with_events command es) told
          new.line) (sym trace) runs;
      session = same;
    }

-- what is true of a fault, from what else is
pub err_then : {A : Type 0} (r : Result A Fault) (P Q : Fault → Type 0)
    → ((fault : Fault) → P fault → Q fault) → IfErr r P → IfErr r Q
err_then (Ok a) P Q then p = tt
err_then (Err fault) P Q then p = then fault p

-- a course by its parts
pub same_course : (needs needs' : List (List ℕ)) (plan plan' : PlanSets)
    (deadline deadline' : Option ℕ) → needs ≡ needs' → plan ≡ plan' → deadline ≡ deadline'
    → course_of needs plan deadline ≡ course_of needs' plan' deadline'
same_course needs needs' plan plan' deadline deadline' same_needs same_plan same_deadline =
    ap (λ (n : List (List ℕ)). course_of n plan deadline) same_needs
    ∙ ap (λ (p : PlanSets). course_of needs' p deadline) same_plan
    ∙ ap (λ (d : Option ℕ). course_of needs' plan' d) same_deadline

-- nothing hinders a session in which a run was begun
can_begin : (start : ℕ) (old : Holding) (command : Command) (task : Task) → old.spoiled ≡ false
    → IsBegun (with_run old) command start task → CanBegin old command
can_begin start old command task whole begun = (
  whole,
  λ refusal own. task_not_own old.database old.line command start task.plan task.deadline
      refusal begun.asked own,
)

-- why a run that was begun is not made, as a fault of the command
halted : (workers start : ℕ) (old : Holding) (command : Command) (task : Task) (fault : Fault)
    → IsCrew workers → old.spoiled ≡ false → IsBegun (with_run old) command start task →
    IsHaltOf (course_of old.database.needs task.plan task.deadline) fault
    → IsFault workers old command fault
halted workers start old command task Workers crew whole begun halt = absurd halt
halted workers start old command task (Refused refusal) crew whole begun halt =
    subst (λ (r : Refusal). IsFault workers old command (Refused r)) (sym halt)
    (crew, can_begin start old command task whole begun)
halted workers start old command task NoThread crew whole begun halt = (
  crew,
  can_begin start old command task whole begun,
  record {
    start = start;
    plan = task.plan;
    deadline = task.deadline;
    task = begun.asked;
    service =
        halt.0;
    moves = halt.1;
  },
)
halted workers start old command task Strange crew whole begun halt = (
  crew,
  can_begin start old command task whole begun,
  record {
    start = start;
    plan = task.plan;
    deadline = task.deadline;
    task = begun.asked;
    service =
        halt.0;
    moves = halt.1;
  },
)

pub halt_fault : (workers start : ℕ) (old mid : Holding) (command : Command) (task : Task)
    (fault : Fault) → IsCrew workers → old.spoiled ≡ false → mid ≡ with_run old
    → IsBegun mid command start task →
    IsHaltOf (course_of mid.database.needs task.plan task.deadline) fault
    → IsFault workers old command fault
halt_fault workers start old mid command task fault crew whole same begun halt =
    halted workers start old command task fault crew whole
    (subst (λ (h : Holding). IsBegun h command start task) same begun)
    (subst (λ (h : Holding). IsHaltOf (course_of h.database.needs task.plan task.deadline) fault)
    same halt)
