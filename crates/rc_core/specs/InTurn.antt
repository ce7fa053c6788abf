-- Runs in which what is to come up waits until lowering is settled.
-- A raise need not wait, so these are some of the runs.
use Rattle.std.specs.Prelude.{◌≡◌, ◌≢◌, ◌⊎◌, ℕ, List, Some, slice_get, take}
use Rattle.rc_model.specs.declared.Standing.TheVariants.{Sinking}
use Rattle.rc_model.specs.declared.Event.{Event}
use Rattle.rc_model.specs.declared.Event.TheVariants.{Take, Done, Stop}
use Rattle.rc_model.specs.Run.{Course, standing_of, IsWorker, IsFree, NoneHeld, IsStopped, CanSink}
use Rattle.rc_model.specs.Run.{CanRise, IsLegal}

-- lowering is settled: nothing is on its way down, and nothing may go down
pub record IsLowered (c : Course) (events : List Event) : Type 0 where
  pub none_sinking : (s : ℕ) → standing_of c events s ≢ Sinking
  pub none_left : (s : ℕ) → CanSink c events s → ⊥

-- an event comes in turn: it is legal and, where it takes a service that may come up,
-- lowering is settled
abbrev pub IsInTurn : Course → List Event → Event → Type 0
IsInTurn c events (Take w s) = IsWorker w × (IsStopped events → ⊥) × IsFree events w
    × (CanSink c events s ⊎ (CanRise c events s × IsLowered c events))
IsInTurn c events (Done w s o) = IsLegal c events (Done w s o)
IsInTurn c events (Stop w m) = IsLegal c events (Stop w m)

-- a list of events, each in turn, after which nothing is held, and which was stopped or leaves
-- nothing to take in turn
pub record IsSettledInTurn (c : Course) (events : List Event) : Type 0 where
  pub run : (k : ℕ) (event : Event) → slice_get events k ≡ Some event
      → IsInTurn c (take k events) event
  pub none_held : NoneHeld events
  pub ended : IsStopped events ⊎ ((w s : ℕ) → IsInTurn c events (Take w s) → ⊥)
