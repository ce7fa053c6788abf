-- What workers make of a command: a run that carries it out, or the first fault.
use Rattle.std.specs.Prelude.{◌≡◌, ℕ, [], true, false, Option}
use Rattle.rc_graph.specs.declared.Way.{Way}
use Rattle.rc_model.specs.Database.{Database}
use Rattle.rc_model.specs.Plan.{PlanSets}
use Rattle.rc_model.specs.declared.Outcome.{Outcome}
use Rattle.rc_model.specs.Run.{IsPlanned, course_of, IsSettled}
use Rattle.rc_model.specs.Line.{Line}
use Rattle.rc_model.specs.declared.Refusal.{Refusal}
use Rattle.rc_model.specs.Session.{Command, Reported, IsTask, DoesByRun, IsOwnFault}
use Rattle.rc_session.specs.Commands.{with_events}
use Rattle.rc_session.specs.Holding.{Holding, IsHindrance, with_line}
use Rattle.rc_board.specs.declared.fault.Fault.{Fault}
use Rattle.rc_board.specs.declared.fault.Fault.TheVariants.{Workers, Strange, Refused}
use Rattle.rc_board.specs.Crew.{IsCrew}
use Rattle.rc_board.specs.Made.{AreMade, AreTimely}

-- a command was carried out by workers with a gate: it was begun at a moment that the
-- gate may give; the events that are told are a settled run of its task from then on,
-- none where nothing is to move, and the workers made them with the gate; where they took a service
-- under a limit, the gate may give a moment before the deadline of this task; and the session did
-- the command with these events
pub record IsCarriedOut (workers : ℕ) (Answers : ℕ → Way → Outcome → Type 0) (Gives : ℕ → Type 0)
    (old : Holding) (command : Command) (told : Reported) (new : Holding) : Type 0 where
  pub crew : IsCrew workers
  pub whole : old.spoiled ≡ false
  pub start : ℕ
  pub given : Gives start
  pub plan : PlanSets
  pub deadline : Option ℕ
  pub task : IsTask old.database old.line command start plan deadline
  pub settled : IsSettled (course_of old.database.needs plan deadline) told.trace
  pub idle : ((s : ℕ) → IsPlanned (course_of old.database.needs plan deadline) s → ⊥) →
      told.trace ≡ []
  pub made : AreMade workers Answers Gives old.line.current.live told.trace
  pub timely : AreTimely Gives deadline told.trace
  pub runs : DoesByRun old.database old.line (with_events command told.trace) told new.line
  pub session : new ≡ with_line old new.line

-- nothing hinders a session to begin a command
abbrev pub CanBegin : Holding → Command → Type 0
CanBegin h command =
    (h.spoiled ≡ false) × ((refusal : Refusal) → IsOwnFault h.database h.line command refusal → ⊥)

-- a command has work for its workers: a run carries it out, and that is to move some service
pub record HasWork (d : Database) (line : Line) (command : Command) : Type 0 where
  pub start : ℕ
  pub plan : PlanSets
  pub deadline : Option ℕ
  pub task : IsTask d line command start plan deadline
  pub service : ℕ
  pub moves : IsPlanned (course_of d.needs plan deadline) service

-- why a command is not carried out: the number of workers first, then what hinders the session to
-- begin it; other faults come only where nothing does, and where there is work to do
abbrev pub IsFault : ℕ → Holding → Command → Fault → Type 0
IsFault workers h command Workers = IsCrew workers → ⊥
IsFault workers h command (Refused refusal) =
    IsCrew workers × IsHindrance (IsOwnFault h.database h.line command) h refusal
IsFault workers h command other =
    IsCrew workers × CanBegin h command × HasWork h.database h.line command

-- what a fault leaves: a strange one poisons the session, any other leaves it as it was
abbrev pub LeavesSession : Holding → Fault → Holding → Type 0
LeavesSession old Strange new =
    new ≡ record { database = old.database; line = old.line; begun = false; spoiled = true }
LeavesSession old other new = new ≡ old
