-- Why the run of a course is not made.
use Rattle.std.specs.Prelude.{◌≡◌, ℕ}
use Rattle.rc_model.specs.Run.{Course, IsPlanned}
use Rattle.rc_model.specs.declared.Refusal.TheVariants as refusals
use Rattle.rc_board.specs.declared.fault.Fault.{Fault}
use Rattle.rc_board.specs.declared.fault.Fault.TheVariants as faults
use Rattle.rc_board.specs.declared.play.Halt.{Halt}
use Rattle.rc_board.specs.declared.play.Halt.TheVariants.{Memory, NoThread, Strange}

-- as out of memory, or, where some service is to move, because workers fail
abbrev pub MayHalt : Course → Halt → Type 0
MayHalt c Memory = Unit {0}
MayHalt c NoThread = (s : ℕ) × IsPlanned c s
MayHalt c Strange = (s : ℕ) × IsPlanned c s

-- the same, as it is told
abbrev pub IsHaltOf : Course → Fault → Type 0
IsHaltOf c faults.Workers = ⊥
IsHaltOf c (faults.Refused refusal) = refusal ≡ refusals.Memory
IsHaltOf c faults.NoThread = (s : ℕ) × IsPlanned c s
IsHaltOf c faults.Strange = (s : ℕ) × IsPlanned c s
