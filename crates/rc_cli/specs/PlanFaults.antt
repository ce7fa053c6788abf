-- When `plan` is refused.
use Rattle.std.specs.Prelude.{◌≡◌, ◌⊎◌, ℕ, List, Some, slice_get}
use Rattle.rc_model.specs.Graph.{IsClosed}
use Rattle.rc_model.specs.Database.{Database}
use Rattle.rc_model.specs.Plan.{Ask, IsPlanFault}
use Rattle.rc_model.specs.declared.PlanFault.{PlanFault}
use Rattle.rc_model.specs.declared.PlanFault.TheVariants as wrong
use Rattle.rc_streams.specs.declared.input.Failure.TheVariants.{Memory}
use Rattle.rc_cli.specs.Faults.{IsFromName}
use Rattle.rc_cli.specs.declared.fault.Fault.{Fault}
use Rattle.rc_cli.specs.declared.fault.Fault.TheVariants.{NotClosed, PruneNeedsUp, Device}
use Rattle.rc_cli.specs.Named.{AreNamed, IsNamed, IsNamedFault}
use Rattle.rc_cli.specs.PlanText.{AreUp}

-- a fault of a plan, as one of a command: an unknown word is reported by itself
abbrev pub IsFromPlan : PlanFault → Ask → Fault → Type 0
IsFromPlan wrong.PruneNeedsUp ask fault = fault ≡ PruneNeedsUp
IsFromPlan (wrong.Unknown place) ask fault =
    (word : List ℕ) × (slice_get ask.words place ≡ Some word) × IsFromName word fault
IsFromPlan wrong.Memory ask fault = fault ≡ Device Memory

-- a fault of the names that are up: the first that is no service, then that one of
-- them lacks something that it needs
abbrev pub IsUpFault : Fault → List (List ℕ) → List (List ℕ) → List (List ℕ) → Type 0
IsUpFault fault names needs ups = IsNamedFault fault names ups
    ⊎ ((fault ≡ NotClosed) × AreNamed names ups × (IsClosed needs (IsNamed names ups) → ⊥))

-- a fault of what is asked: that it prunes downwards, then the first word that is the name of
-- nothing
abbrev pub IsAskFault : Fault → Database → Ask → Type 0
IsAskFault fault d ask =
    (wrong : PlanFault) × IsPlanFault d.names d.table ask wrong × IsFromPlan wrong ask fault

-- when a refusal comes that concerns names: those of what is up, and then those of what is asked
abbrev pub IsNameFault : Fault → Database → List (List ℕ) → Ask → Type 0
IsNameFault fault d ups ask =
    IsUpFault fault d.names d.needs ups ⊎ (AreUp d.names d.needs ups × IsAskFault fault d ask)
