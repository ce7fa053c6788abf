-- What is told of a device that failed.
use Rattle.std.proofs.Common.{◌⊎◌, ℕ, List, Option, inl, inr, subst}
use Rattle.rc_source.specs.Tree.{Source}
use Rattle.rc_source.specs.Tests.{SomeFailed, name_carried}
use Rattle.rc_source.specs.declared.fault.Flaw.{Flaw}
use Rattle.rc_compile.specs.declared.command.compile_faults.TreesFault.{TreesFault}
use Rattle.rc_compile.specs.declared.command.compile_faults.TreesFault.TheVariants.{Source as OfSource}
use Rattle.rc_compile.specs.declared.command.compile_faults.TreesFault.TheVariants.{Definitions}
use Rattle.rc_compile.specs.declared.command.compile_faults.TreesFault.TheVariants.{Memory}
use Rattle.rc_compile.specs.CompileRefusals.{IsDeviceFault, IsTreesFault, StopsReading}
use Rattle.rc_compile.specs.CompileRefusals.{TellsDevice, TellsWant, flaw_text, trees_text}
use Rattle.rc_streams.specs.declared.input.Failure.TheVariants as failure
use Rattle.rc_streams.specs.Input.{AppendsFront, failure_text, fault_line}

-- a device that failed is told with the entry at which reading stopped
pub device_told : (held : List (Option Source)) (before after : List ℕ) (unwritten : Type 0)
    (fault : TreesFault) (old new : Option (List ℕ)) → IsTreesFault held fault
    → (IsDeviceFault fault → SomeFailed before after)
    → (IsDeviceFault fault × AppendsFront old new (fault_line (trees_text fault)))
    ⊎ AppendsFront old new (fault_line (failure_text failure.Memory))
    → TellsDevice held before after old new ⊎ TellsWant unwritten old new
device_told held before after unwritten fault old new stops failed (inr want) = inr (inr want)
device_told held before after unwritten (OfSource fault) old new stops failed (inl line) = inl (
  name_carried fault,
  subst (λ (flaw : Flaw). StopsReading held flaw (name_carried fault)) line.0
      (stops (λ memory. let none : ⊥ = cc in none)),
  failed line.0,
  subst (λ (flaw : Flaw). AppendsFront old new (fault_line (flaw_text flaw (name_carried fault))))
      line.0 line.1,
)
device_told held before after unwritten (Definitions fault) old new stops failed (inl line) =
    absurd line.0
device_told held before after unwritten Memory old new stops failed (inl line) = absurd line.0
