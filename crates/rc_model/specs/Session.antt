-- Commands, what each does to the line, what is reported of it, and when it is refused.
use Rattle.std.specs.Prelude.{ℕ, Bool, List, [], ◌≡◌, ◌+◌, ◌-◌, ◌^◌, ◌==◌, if◌then◌else◌, min}
use Rattle.std.specs.Prelude.{length, Option, None, Some, ◌↔◌, true, false, ◌⊎◌, All, take}
use Rattle.std.specs.Prelude.{slice_get, ◌∷◌, Result, Ok, Err}
use Rattle.rc_model.specs.declared.Event.{Event}
use Rattle.rc_model.specs.Plan.{Ask, PlanSets, IsPlanTo, IsPlanOf, CanPlan, IsPlanFault}
use Rattle.rc_model.specs.Names.{Has, Holds}
use Rattle.rc_model.specs.Database.{Database, Bundles, IsTable, HaveBound, AreApart}
use Rattle.rc_model.specs.Run.{Course, IsLive, IsSettled, HasFailed, IsStopped, IsLeft, course_of}
use Rattle.rc_model.specs.Run.{IsLegal, IsRun}
use Rattle.rc_model.specs.Line.{Line, IsNext, MovesByChange, MovesByUndo, MovesByRedo, IsGained}
use Rattle.rc_model.specs.Line.{Defines, Removes, CanAdd, CanDelete, State, IsLine, states}
use Rattle.rc_model.specs.Line.{MovesByEdit, IsAddFault, IsDeleteFault, Lists}
use Rattle.rc_model.specs.Graph.{IsClosed}
use Rattle.rc_model.specs.declared.Refusal.{Refusal}
use Rattle.rc_model.specs.declared.Refusal.TheVariants.{BadEvent, NotSettled, PruneNeedsUp, Unknown}
use Rattle.rc_model.specs.declared.Refusal.TheVariants.{IsAtomic, Exists, Missing, Full}
use Rattle.rc_model.specs.declared.Refusal.TheVariants.{NothingToUndo, NothingToRedo}
use Rattle.rc_model.specs.declared.PlanFault.TheVariants as plan_fault
use Rattle.rc_model.specs.declared.BundleFault.TheVariants as bundle_fault

-- what a session is told to do: a change, an undo or a redo, each with the
-- events of its run, or an edit of bundles; limits in milliseconds, 0 for none
pub data Command : Type 0 where
  Change : (ask : Ask) → (events : List Event) → Command
  Undo : (limit : ℕ) → (events : List Event) → Command
  Redo : (limit : ℕ) → (events : List Event) → Command
  Add : (name : List ℕ) → (contents : List (List ℕ)) → (force : Bool) → Command
  Delete : (words : List (List ℕ)) → (force : Bool) → Command

-- the events that a command brings
abbrev pub events_of : Command → List Event
events_of (Change ask events) = events
events_of (Undo limit events) = events
events_of (Redo limit events) = events
events_of (Add name contents force) = []
events_of (Delete words force) = []

-- the moment from which a run may be stopped: its start plus its limit, at most the last moment
-- that there is; none without a limit. `DoesByRun` takes 0 as the start for the events that a
-- command brings, as a stop that is legal with a later start is legal with 0 too: so how long was
-- waited is not said
abbrev pub deadline_of : ℕ → ℕ → Option ℕ
deadline_of start limit = if limit == 0 then None else Some (min (start + limit) (2 ^ 64 - 1))

-- no service: an undo or a redo spares none
abbrev pub Nothing : ℕ → Type 0
Nothing s = ⊥

-- the way of an undo or redo from some live services to others: the plan between them, which spares
-- none as essential; unlike a change, it has no deadline where nothing is to move
pub record IsWay (from to : List Bool) (start limit : ℕ) (plan : PlanSets)
    (deadline : Option ℕ) : Type 0 where
  pub leads : IsPlanTo from (Has to) Nothing plan
  pub untimed : from ≡ to → deadline ≡ None
  pub timed : (from ≡ to → ⊥) → deadline ≡ deadline_of start limit

-- the run that a command asks for at a moment, by its plan and its deadline; an edit asks for none
abbrev pub IsTask : Database → Line → Command → ℕ → PlanSets → Option ℕ → Type 0
IsTask d line (Change ask events) start plan deadline =
    CanPlan d.names line.current.table ask
    × IsPlanOf d line.current.table line.current.live ask plan
    × (deadline ≡ deadline_of start ask.limit)
IsTask d line (Undo limit events) start plan deadline =
    (back : Line) × IsNext back line
    × IsWay line.current.live back.current.live start limit plan deadline
IsTask d line (Redo limit events) start plan deadline =
    (on : Line) × IsNext line on × IsWay line.current.live on.current.live start limit plan deadline
IsTask d line (Add name contents force) start plan deadline = ⊥
IsTask d line (Delete words force) start plan deadline = ⊥

-- the events are a settled run, and these services are live after it
pub record EndsWith (c : Course) (events : List Event) (live : List Bool) : Type 0 where
  pub settled : IsSettled c events
  pub bound : length live ≡ length c.up
  pub members : Holds live (IsLive c events)

-- the one move of a command whose run ends with these services live
abbrev pub MovesBy : Line → Command → List Bool → Line → Type 0
MovesBy line (Change ask events) live new = MovesByChange line live new
MovesBy line (Undo limit events) live new = MovesByUndo line live new
MovesBy line (Redo limit events) live new = MovesByRedo line live new
MovesBy line (Add name contents force) live new = ⊥
MovesBy line (Delete words force) live new = ⊥

-- what is reported of a command: what was live before it; which services went down, came up,
-- failed; which were to move and were never taken, in a run that was not stopped (blocked) or in
-- one that was (untried); which were kept; whether the run was stopped; and its events
pub record Reported : Type 0 where
  pub opening : List Bool
  pub lowered : List ℕ
  pub raised : List ℕ
  pub failed : List ℕ
  pub blocked : List ℕ
  pub untried : List ℕ
  pub kept : List ℕ
  pub stopped : Bool
  pub trace : List Event

-- what is reported of a run after which these services are live: each part is what `Reported`
-- calls it, of the course, the plan and the events
pub record IsReportOf (c : Course) (plan : PlanSets) (events : List Event) (live : List Bool)
    (report : Reported) : Type 0 where
  pub opening : report.opening ≡ c.up
  pub lowered : Lists (IsGained live c.up) report.lowered
  pub raised : Lists (IsGained c.up live) report.raised
  pub failed : Lists (HasFailed events) report.failed
  pub blocked : Lists (λ s. IsLeft c events s × (IsStopped events → ⊥)) report.blocked
  pub untried : Lists (λ s. IsLeft c events s × IsStopped events) report.untried
  pub kept : Lists (Has plan.kept) report.kept
  pub stopped : (report.stopped ≡ true) ↔ IsStopped events
  pub trace : report.trace ≡ events

-- a change, undo or redo is carried out: the events that it brings are a settled run of its
-- task, from what is live; the line moves once, by what is live after them; and this is reported
pub record DoesByRun (d : Database) (line : Line) (command : Command) (report : Reported)
    (new : Line) : Type 0 where
  pub plan : PlanSets
  pub deadline : Option ℕ
  pub live : List Bool
  pub task : IsTask d line command 0 plan deadline
  pub ends : EndsWith (course_of d.needs plan deadline) (events_of command) live
  pub moved : MovesBy line command live new
  pub is_report : IsReportOf (course_of d.needs plan deadline) plan (events_of command) live report

-- the bundles that an edit makes of the old ones
abbrev pub EditsTable : Database → Bundles → Command → Bundles → Type 0
EditsTable d old (Add name contents force) new =
    CanAdd d.names old name contents force × Defines d.names old name contents new
EditsTable d old (Delete words force) new =
    CanDelete d.names old words force × Removes old words new
EditsTable d old other new = ⊥

-- what is reported of an edit: nothing but what is live
abbrev pub edit_report : List Bool → Reported
edit_report live =
    record {
      opening = live;
      lowered = [];
      raised = [];
      failed = [];
      blocked = [];
      untried = [];
      kept = [];
      stopped = false;
      trace = [];
    }

-- an edit is made: its new bundles are a table, the line moves once, by these, and what is live is
-- reported; so an `Add` of what is no name (`IsName`) is not done, nor is it refused for that
pub record DoesByEdit (d : Database) (line : Line) (command : Command) (report : Reported)
    (new : Line) : Type 0 where
  pub table : Bundles
  pub is_table : IsTable table
  pub altered : EditsTable d line.current.table command table
  pub moved : MovesByEdit line table new
  pub is_report : report ≡ edit_report line.current.live

-- a command is done where the line stands: the transition relation
abbrev pub Does : Database → Line → Command → Reported → Line → Type 0
Does d line command report new =
    DoesByRun d line command report new ⊎ DoesByEdit d line command report new

-- the command cannot be begun where the line stands; of several causes the first counts
abbrev pub IsOwnFault : Database → Line → Command → Refusal → Type 0
IsOwnFault d line (Change ask events) PruneNeedsUp =
    IsPlanFault d.names line.current.table ask plan_fault.PruneNeedsUp
IsOwnFault d line (Change ask events) (Unknown place) =
    IsPlanFault d.names line.current.table ask (plan_fault.Unknown place)
IsOwnFault d line (Undo limit events) NothingToUndo = line.before ≡ []
IsOwnFault d line (Redo limit events) NothingToRedo = line.after ≡ []
IsOwnFault d line (Add name contents force) (IsAtomic place) =
    IsAddFault d.names line.current.table name contents force (bundle_fault.IsAtomic place)
IsOwnFault d line (Add name contents force) Exists =
    IsAddFault d.names line.current.table name contents force bundle_fault.Exists
IsOwnFault d line (Add name contents force) (Unknown place) =
    IsAddFault d.names line.current.table name contents force (bundle_fault.Unknown place)
IsOwnFault d line (Add name contents force) Full =
    IsAddFault d.names line.current.table name contents force bundle_fault.Full
IsOwnFault d line (Delete words force) (IsAtomic place) =
    IsDeleteFault d.names line.current.table words force (bundle_fault.IsAtomic place)
IsOwnFault d line (Delete words force) (Missing place) =
    IsDeleteFault d.names line.current.table words force (bundle_fault.Missing place)
IsOwnFault d line command other = ⊥

-- at this place stands the first event that is not legal after those before it
abbrev pub IsFirstIllegal : Course → List Event → ℕ → Type 0
IsFirstIllegal c events place =
    (event : Event) × (slice_get events place ≡ Some event) × IsRun c (take place events)
    × (IsLegal c (take place events) event → ⊥)

-- all events are legal, and they leave something to do; their number is reported
abbrev pub IsUnsettled : Course → List Event → ℕ → Type 0
IsUnsettled c events place = IsRun c events × (IsSettled c events → ⊥) × (place ≡ length events)

-- the events are no settled run of the course: one is not legal, or they leave something to do
abbrev pub IsEventFault : Course → List Event → Refusal → Type 0
IsEventFault c events (BadEvent place) = IsFirstIllegal c events place
IsEventFault c events (NotSettled place) = IsUnsettled c events place
IsEventFault c events other = ⊥

-- the events that the command brings are no settled run of its task
abbrev pub IsRunFault : Database → Line → Command → Refusal → Type 0
IsRunFault d line command refusal =
    (plan : PlanSets) × (deadline : Option ℕ) × IsTask d line command 0 plan deadline
    × IsEventFault (course_of d.needs plan deadline) (events_of command) refusal

-- a command is refused where the line stands: it cannot
-- be begun, or its events are no settled run of its task
abbrev pub Refuses : Database → Line → Command → Refusal → Type 0
Refuses d line command refusal =
    IsOwnFault d line command refusal ⊎ IsRunFault d line command refusal

-- the answer to a command, and the line from then on: it is done, or it is
-- refused and the line stays; `NotEdit`, `Strange` and `Memory`, of calls alone, are none here
abbrev pub Answers : Database → Line → Command → Result Reported Refusal → Line → Type 0
Answers d line command (Ok report) new = Does d line command report new
Answers d line command (Err refusal) new = Refuses d line command refusal × (new ≡ line)

-- an execution: the answers to commands, one after the other, and the line from then on
abbrev pub Plays : Database → Line → List Command → List (Result Reported Refusal) → Line → Type 0
Plays d line [] [] new = new ≡ line
Plays d line (command ∷ commands) (answer ∷ answers) new =
    (next : Line) × Answers d line command answer next × Plays d next commands answers new
Plays d line [] (answer ∷ answers) new = ⊥
Plays d line (command ∷ commands) [] new = ⊥

-- a state of a database: a live set and bundles of its services; all that a live service needs is
-- live; no bundle has the name of a service; that the bundles are a table is said by `AreStates`
pub record IsStateOf (d : Database) (s : State) : Type 0 where
  pub bound : length s.live ≡ length d.names
  pub closed : IsClosed d.needs (Has s.live)
  pub sets : HaveBound (length d.names) s.table
  pub apart : AreApart d.names s.table

-- a line of states of a database: the invariant of a session
pub record IsLineOf (d : Database) (line : Line) : Type 0 where
  pub is_line : IsLine line
  pub each : All (IsStateOf d) (states line)
