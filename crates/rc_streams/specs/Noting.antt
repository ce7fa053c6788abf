-- When a call of a device counts as its failure.
use Rattle.std.specs.Prelude.{◌≡◌, ◌≢◌, ◌⊎◌, ◌≤◌, ◌+◌, ℕ, true, Result, Ok, Err}
use Rattle.std.specs.IoError.{error_kind}
use Rattle.std.specs.declared.io.Error.{Error}
use Rattle.std.specs.declared.io.ErrorKind.TheVariants.{Interrupted}
use Rattle.rc_streams.specs.declared.noted.Noted.{Noted}

-- the reader or writer that is wrapped
abbrev pub inner_of : {T : Type 0} → Noted T → T
inner_of n = n.inner

-- a call has failed
abbrev pub HasFailed : {T : Type 0} → Noted T → Type 0
HasFailed n = n.failed ≡ true

-- nothing was written since the last flush that did not fail
abbrev pub IsFlushed : {T : Type 0} → Noted T → Type 0
IsFlushed n = n.flushed ≡ true

-- how many reads in a row were interrupted
abbrev pub interrupts_of : {T : Type 0} → Noted T → ℕ
interrupts_of n = n.interrupts

-- after so many interrupted reads in a row, the read has failed: by an error, or as
-- the 1,001st that was interrupted
abbrev pub IsReadFault : ℕ → Result ℕ Error → Type 0
IsReadFault row (Ok count) = ⊥
IsReadFault row (Err e) = (error_kind e ≢ Interrupted) ⊎ (1000 ≤ row)

-- how many are in a row after the read
abbrev pub CountsRow : ℕ → Result ℕ Error → ℕ → Type 0
CountsRow old (Ok count) new = new ≡ 0
CountsRow old (Err e) new = (IsReadFault old (Err e) → ⊥) → new ≡ old + 1

-- the write of so many bytes has failed: by an error, an interruption
-- among them, or because it took none
abbrev pub IsWriteFault : ℕ → Result ℕ Error → Type 0
IsWriteFault length (Ok count) = (count ≡ 0) × (length ≢ 0)
IsWriteFault length (Err e) = Unit {0}
