-- Why a session ends before its input does.
use Rattle.std.specs.Prelude.{◌≡◌, ◌⊎◌, ◌<◌, ◌≤◌, ℕ, List, true, Result, Ok, Err, MatchResult}
use Rattle.rc_streams.specs.declared.input.Failure.{Failure}
use Rattle.rc_streams.specs.declared.input.Failure.TheVariants as failures
use Rattle.rc_board.specs.declared.fault.Fault.{Fault}
use Rattle.rc_board.specs.declared.fault.Fault.TheVariants as faults
use Rattle.rc_model.specs.declared.Refusal.TheVariants as refusals
use Rattle.rc_session.specs.Holding.{Holding}
use Rattle.rc_streams.specs.Taking.{BeginsTooLong, IsLine}
use Rattle.rc_serve.specs.declared.fault.ServeFault.{ServeFault}
use Rattle.rc_serve.specs.declared.fault.ServeFault.TheVariants.{Read, Write, TooLong, Memory}
use Rattle.rc_serve.specs.declared.fault.ServeFault.TheVariants.{NoThread, Strange, Workers, Io}

-- a failure of a device, of its bounds or of memory, as it is told
abbrev pub of_failure : Failure → ServeFault
of_failure failures.Read = Read
of_failure failures.Write = Write
of_failure failures.TooLong = TooLong
of_failure failures.Memory = Memory

-- a command ends the session: as out of memory, for a thread that was not started, or as strange
abbrev pub IsInner : (strange threads : Type 0) → ServeFault → Type 0
IsInner strange threads Memory = Unit {0}
IsInner strange threads NoThread = threads
IsInner strange threads Strange = strange
IsInner strange threads other = ⊥

-- a line ends the session. But for out of memory it leaves the line of states as it was, and does
-- so only where workers have work; as strange it ends also a session that was poisoned before
abbrev pub EndsSession : (work : Type 0) → (old new : Holding) → ServeFault → Type 0
EndsSession work old new =
    IsInner (((old.spoiled ≡ true) ⊎ work) × (new.line ≡ old.line)) (work × (new.line ≡ old.line))

-- what a fault makes of a session: a strange one leaves it poisoned,
-- and no other alters whether it is
abbrev pub Spoils : ServeFault → (old new : Holding) → Type 0
Spoils Strange old new = new.spoiled ≡ true
Spoils other old new = new.spoiled ≡ old.spoiled

-- a session is poisoned by a strange fault, and by nothing else
abbrev pub IsSpoiledBy : {A : Type 0} → Result A ServeFault → (old new : Holding) → Type 0
IsSpoiledBy result old new =
    MatchResult result (λ _. new.spoiled ≡ old.spoiled) (λ fault. Spoils fault old new)

-- what came of a command that workers carry out is strange
abbrev pub IsStrange : {A : Type 0} → Result A Fault → Type 0
IsStrange (Ok done) = ⊥
IsStrange (Err faults.Strange) = Unit {0}
IsStrange (Err (faults.Refused refusal)) = refusal ≡ refusals.Strange
IsStrange (Err faults.Workers) = ⊥
IsStrange (Err faults.NoThread) = ⊥

-- a fault that comes of an answer: it could not be made, or not be written
abbrev pub IsOfAnswer : ServeFault → Type 0
IsOfAnswer Write = Unit {0}
IsOfAnswer Memory = Unit {0}
IsOfAnswer other = ⊥

-- a fault that comes of a line that was met: it could not be kept, or its answer could not be made
-- or written
abbrev pub IsOfLine : ServeFault → Type 0
IsOfLine Write = Unit {0}
IsOfLine Memory = Unit {0}
IsOfLine Io = Unit {0}
IsOfLine other = ⊥

-- where a session stands as a fault comes while all is answered: so many bytes were read in
-- all, and these follow the lines that were met. A read fails only where no line of them is
-- whole and no bound is passed; the input is too long only where no line of them is whole, or
-- the next line is too long; and workers fail only where the next line has work for them, or
-- the session was poisoned before
abbrev pub StandsAt : ServeFault → (spoiled work : Type 0) → ℕ → List ℕ → Type 0
StandsAt Read spoiled work taken rest = IsLine rest × (taken ≤ 16777216)
StandsAt TooLong spoiled work taken rest = (IsLine rest × (16777216 < taken)) ⊎ BeginsTooLong rest
StandsAt NoThread spoiled work taken rest = work
StandsAt Strange spoiled work taken rest = spoiled ⊎ work
StandsAt other spoiled work taken rest = Unit {0}

-- when each fault comes: of the reader, the writer and the keeper only where that one has failed,
-- that of the workers' number not once anything was read. When workers fail, `StandsAt` says
abbrev pub IsServeFault : (reader writer keeper : Type 0) → ServeFault → Type 0
IsServeFault reader writer keeper Read = reader
IsServeFault reader writer keeper Write = writer
IsServeFault reader writer keeper TooLong = Unit {0}
IsServeFault reader writer keeper Memory = Unit {0}
IsServeFault reader writer keeper NoThread = Unit {0}
IsServeFault reader writer keeper Strange = Unit {0}
IsServeFault reader writer keeper Workers = ⊥
IsServeFault reader writer keeper Io = keeper
