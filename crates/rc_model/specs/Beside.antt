-- Words of contracts on which the headline does not rest, to be read after it or not at all.
use Rattle.std.specs.Prelude.{◌≡◌, ◌⊎◌, ◌+◌, ℕ, List, [], count_by, length, Ok}
use Rattle.rc_model.specs.Names.{Has}
use Rattle.rc_model.specs.Graph.{AreNeeds, IsAcyclic, IsClosed}
use Rattle.rc_model.specs.Database.{Database}
use Rattle.rc_model.specs.declared.Event.{Event}
use Rattle.rc_model.specs.Run.{Course, IsHeldBy}
use Rattle.rc_model.specs.Line.{State, Line, IsNext}
use Rattle.rc_model.specs.declared.PlanFault.{PlanFault}
use Rattle.rc_model.specs.declared.BundleFault.{BundleFault}
use Rattle.rc_model.specs.declared.LineFault.{LineFault}
use Rattle.rc_model.specs.declared.Refusal.{Refusal}
use Rattle.rc_model.specs.declared.Refusal.TheVariants.{PruneNeedsUp, Unknown, IsAtomic, Exists}
use Rattle.rc_model.specs.declared.Refusal.TheVariants.{Missing, Full, NothingToUndo, NothingToRedo}
use Rattle.rc_model.specs.declared.Refusal.TheVariants.{NotEdit, Memory}
use Rattle.rc_model.specs.declared.PlanFault.TheVariants as plan_fault
use Rattle.rc_model.specs.declared.BundleFault.TheVariants as bundle_fault
use Rattle.rc_model.specs.declared.LineFault.TheVariants as line_fault
use Rattle.rc_model.specs.Session.{Command, Change, Undo, Redo, Add, Delete, Reported, IsOwnFault}
use Rattle.rc_model.specs.Headline.{RanInOrder, IsEntered, EntersEdit, KeepsHistory, WentWell}
use Rattle.rc_model.specs.Headline.{Leaves, LeavesAhead, HasRun}

-- what is up in the end where all goes well: what is up and not to go down, and what is to come up
abbrev pub TargetOf : Course → ℕ → Type 0
TargetOf c s = (Has c.up s × (Has c.lower s → ⊥)) ⊎ Has c.raise s

-- what a run may begin with: needs as `AreNeeds` says, in which no service reaches itself, and sets
-- of its services; what is to go down is up, what is to come up is not; what is up at first is
-- closed, and so is the target
pub record IsCourse (c : Course) : Type 0 where
  pub lists : AreNeeds c.needs
  pub acyclic : IsAcyclic c.needs
  pub up_bound : length c.up ≡ length c.needs
  pub lower_bound : length c.lower ≡ length c.needs
  pub raise_bound : length c.raise ≡ length c.needs
  pub falls : (s : ℕ) → Has c.lower s → Has c.up s
  pub rises : (s : ℕ) → Has c.raise s → Has c.up s → ⊥
  pub opening : IsClosed c.needs (Has c.up)
  pub target : IsClosed c.needs (TargetOf c)

-- how many services the course is to move
abbrev pub planned_count : Course → ℕ
planned_count c = count_by (λ flag. flag) c.lower + count_by (λ flag. flag) c.raise

-- some worker holds a service
abbrev pub SomeHeld : List Event → Type 0
SomeHeld events = (w : ℕ) × (s : ℕ) × IsHeldBy events w s

-- the two states differ in their bundles at most
abbrev pub IsEditOnly : State → State → Type 0
IsEditOnly from to = from.live ≡ to.live

-- a call that undoes or redoes an edit alone cannot be begun: there
-- is nothing to undo or redo, or services would move
abbrev pub IsEditFault : Database → Line → Command → Refusal → Type 0
IsEditFault d line (Undo limit events) NotEdit =
    (back : Line) × IsNext back line × (IsEditOnly line.current back.current → ⊥)
IsEditFault d line (Redo limit events) NotEdit =
    (on : Line) × IsNext line on × (IsEditOnly line.current on.current → ⊥)
IsEditFault d line command other = IsOwnFault d line command other

-- how it is reported why there is no plan
abbrev pub of_plan : PlanFault → Refusal
of_plan plan_fault.PruneNeedsUp = PruneNeedsUp
of_plan (plan_fault.Unknown place) = Unknown place
of_plan plan_fault.Memory = Memory

-- how it is reported why a change, an edit, an undo or a redo is not begun on a line
abbrev pub of_line : LineFault → Refusal
of_line line_fault.NothingToUndo = NothingToUndo
of_line line_fault.NothingToRedo = NothingToRedo
of_line line_fault.Memory = Memory

-- how it is reported why bundles are not defined or removed
abbrev pub of_bundle : BundleFault → Refusal
of_bundle (bundle_fault.IsAtomic place) = IsAtomic place
of_bundle bundle_fault.Exists = Exists
of_bundle (bundle_fault.Missing place) = Missing place
of_bundle (bundle_fault.Unknown place) = Unknown place
of_bundle bundle_fault.Memory = Memory
of_bundle bundle_fault.Full = Full

-- where a command that was done leads, and how that is entered
abbrev pub EndsAsPromised : Line → Command → Reported → Line → Type 0
-- a change is entered as what it is reported to have altered
EndsAsPromised line (Change ask events) report new =
    IsEntered line new (record { raised = report.raised; lowered = report.lowered; edit = [] })
-- an undo comes to the state before, as each does that goes well, or leaves exactly the inverse
-- of what remains
EndsAsPromised line (Undo limit events) report new = (back : Line) → IsNext back line →
    (WentWell (Ok report) → new ≡ back) × ((new ≡ back) ⊎ Leaves back line new)
-- a redo the same forwards
EndsAsPromised line (Redo limit events) report new = (on : Line) → IsNext line on →
    (WentWell (Ok report) → new ≡ on) × ((new ≡ on) ⊎ LeavesAhead on line new)
EndsAsPromised line (Add name contents force) report new = EntersEdit line new
EndsAsPromised line (Delete words force) report new = EntersEdit line new

-- what is promised of one command that was done: of where it led and of what it tells
pub record IsDoneAsPromised (d : Database) (line : Line) (command : Command) (report : Reported)
    (new : Line) : Type 0 where
  pub orderly : HasRun command → RanInOrder d line command report new
  pub ends : EndsAsPromised line command report new
  pub history : KeepsHistory line command new
