-- Events, where services stand after them, which may come next, and when a run is settled.
-- An event is a `Take`, a `Done` or a `Stop`; a service stands `Down`, `Rising`, `Up` or `Sinking`.
use Rattle.std.specs.Prelude.{◌≡◌, ◌⊎◌, ℕ, List, Bool, Option, ◌==◌, true, false, if◌then◌else◌}
use Rattle.std.specs.Prelude.{slice_index_or, ◌≤◌, Contains, Some, slice_get, take, ◌≢◌}
use Rattle.rc_model.specs.Names.{Has}
use Rattle.rc_model.specs.Graph.{Needs}
use Rattle.rc_model.specs.Plan.{PlanSets}
use Rattle.std.specs.List.{fold}
use Rattle.rc_model.specs.declared.Standing.{Standing}
use Rattle.rc_model.specs.declared.Standing.TheVariants.{Down, Rising, Up, Sinking}
use Rattle.rc_model.specs.declared.Outcome.{Outcome}
use Rattle.rc_model.specs.declared.Event.{Event}
use Rattle.rc_model.specs.declared.Event.TheVariants.{Take, Done, Stop}
use Rattle.rc_model.specs.declared.Outcome.TheVariants as outcome

-- what a run starts from and what it is to do: who needs whom, what is up, what is to go
-- down, what is to come up, and the moment from which it may be stopped, none for never
pub record Course : Type 0 where
  pub needs : List (List ℕ)
  pub up : List Bool
  pub lower : List Bool
  pub raise : List Bool
  pub deadline : Option ℕ

-- the course that a plan gives: it starts from what is up before the plan, its `opening`
abbrev pub course_of : List (List ℕ) → PlanSets → Option ℕ → Course
course_of needs plan deadline =
    record {
      needs = needs;
      up = plan.opening;
      lower = plan.lower;
      raise = plan.raise;
      deadline = deadline;
    }

-- whether a transition went well
abbrev pub is_success : Outcome → Bool
is_success outcome.Ok = true
is_success (outcome.Failed status) = false
is_success outcome.TimedOut = false
is_success outcome.NotStarted = false

-- a service that is taken leaves where it stood; in a run none is taken that is on its way
abbrev pub after_take : Standing → Standing
after_take Down = Rising
after_take Up = Sinking
after_take Rising = Rising
after_take Sinking = Sinking

-- with success a service on its way arrives, otherwise it is back where
-- it stood; in a run only what is on its way ends
abbrev pub after_end : Bool → Standing → Standing
after_end true Rising = Up
after_end false Rising = Down
after_end true Sinking = Down
after_end false Sinking = Up
after_end well Down = Down
after_end well Up = Up

-- how a service stands after one more event
abbrev pub after_event : ℕ → Standing → Event → Standing
after_event s standing (Take w t) = if t == s then after_take standing else standing
after_event s standing (Done w t o) = if t == s then after_end (is_success o) standing else standing
after_event s standing (Stop w m) = standing

-- how a service stands at first
abbrev pub standing_at_first : Course → ℕ → Standing
standing_at_first c s = if slice_index_or c.up s false then Up else Down

-- how a service stands after a list of events
abbrev pub standing_of : Course → List Event → ℕ → Standing
standing_of c events s = fold (after_event s) (standing_at_first c s) events

-- the numbers of workers
abbrev pub IsWorker : ℕ → Type 0
IsWorker w = (1 ≤ w) × (w ≤ 64)

-- some worker took the service
abbrev pub WasTaken : List Event → ℕ → Type 0
WasTaken events s = (w : ℕ) × Contains events (Take w s)

-- the worker took the service and has not ended it; in a run each is taken once at most
abbrev pub IsHeldBy : List Event → ℕ → ℕ → Type 0
IsHeldBy events w s =
    Contains events (Take w s) × ((o : Outcome) → Contains events (Done w s o) → ⊥)

-- the worker holds nothing
abbrev pub IsFree : List Event → ℕ → Type 0
IsFree events w = (s : ℕ) → IsHeldBy events w s → ⊥

-- no worker holds anything
abbrev pub NoneHeld : List Event → Type 0
NoneHeld events = (w : ℕ) → IsFree events w

-- the service's transition ended, and not with success
abbrev pub HasFailed : List Event → ℕ → Type 0
HasFailed events s = (w : ℕ) × (o : Outcome) × Contains events (Done w s o) × (is_success o ≡ false)

-- the run was stopped
abbrev pub IsStopped : List Event → Type 0
IsStopped events = (w : ℕ) × (m : ℕ) × Contains events (Stop w m)

-- a service may go down: it is to go down, is up, was never taken, and all that need it are down
pub record CanSink (c : Course) (events : List Event) (s : ℕ) : Type 0 where
  pub planned : Has c.lower s
  pub up : standing_of c events s ≡ Up
  pub fresh : WasTaken events s → ⊥
  pub needed_by_none : (r : ℕ) → Needs c.needs r s → standing_of c events r ≡ Down

-- a service may come up: it is to come up, is down, was never taken, and all that it needs is up
pub record CanRise (c : Course) (events : List Event) (s : ℕ) : Type 0 where
  pub planned : Has c.raise s
  pub down : standing_of c events s ≡ Down
  pub fresh : WasTaken events s → ⊥
  pub needs_up : (t : ℕ) → Needs c.needs s t → standing_of c events t ≡ Up

-- a service may be taken
abbrev pub CanMove : Course → List Event → ℕ → Type 0
CanMove c events s = CanSink c events s ⊎ CanRise c events s

-- an event is legal after a list of events: it is enabled there
abbrev pub IsLegal : Course → List Event → Event → Type 0
IsLegal c events (Take w s) =
    IsWorker w × (IsStopped events → ⊥) × IsFree events w × CanMove c events s
IsLegal c events (Done w s o) = IsWorker w × IsHeldBy events w s
IsLegal c events (Stop w m) =
    IsWorker w × (IsStopped events → ⊥) × ((d : ℕ) × (c.deadline ≡ Some d) × (d ≤ m))

-- nothing may be taken, by any worker
abbrev pub NoneTakes : Course → List Event → Type 0
NoneTakes c events = (w s : ℕ) → IsLegal c events (Take w s) → ⊥

-- a run, or trace: each event is legal after those before it
abbrev pub IsRun : Course → List Event → Type 0
IsRun c events =
    (k : ℕ) (event : Event) → slice_get events k ≡ Some event → IsLegal c (take k events) event

-- a settled, or complete, run: its events are legal, nothing is held after
-- them, and it was stopped or has nothing left to take
pub record IsSettled (c : Course) (events : List Event) : Type 0 where
  pub run : IsRun c events
  pub none_held : NoneHeld events
  pub ended : IsStopped events ⊎ NoneTakes c events

-- the service is live: up, or on its way down and so not yet down; in a settled run that is: up
abbrev pub IsLive : Course → List Event → ℕ → Type 0
IsLive c events s = (standing_of c events s ≡ Up) ⊎ (standing_of c events s ≡ Sinking)

-- a service that is not down has all that it needs up
abbrev pub IsStrictlyClosed : Course → List Event → Type 0
IsStrictlyClosed c events =
    (s t : ℕ) → Needs c.needs s t → standing_of c events s ≢ Down → standing_of c events t ≡ Up

-- a service that the course is to move
abbrev pub IsPlanned : Course → ℕ → Type 0
IsPlanned c s = Has c.lower s ⊎ Has c.raise s

-- a service that is to move was never taken; after a settled run it is
-- reported as blocked or, where the run was stopped, as untried
abbrev pub IsLeft : Course → List Event → ℕ → Type 0
IsLeft c events s = IsPlanned c s × (WasTaken events s → ⊥)
