-- What a keeper keeps, and what is kept as a session goes on.
use Rattle.std.specs.Prelude.{◌≡◌, ◌≢◌, ◌⊎◌, ◌↔◌, ℕ, Bool, List, Option, Some, None, Result, Err}
use Rattle.std.specs.Io.KnownBytes.{Consumes}
use Rattle.rc_streams.specs.Exchange.{Exchange}
use Rattle.rc_model.specs.Database.{Bundles, Database}
use Rattle.rc_model.specs.Line.{Line}
use Rattle.rc_model.specs.Session.{Command}
use Rattle.rc_session.specs.Holding.{Holding}
use Rattle.rc_script.specs.Says.{Saying, SaysStep}
use Rattle.rc_serve.specs.declared.fault.ServeFault.{ServeFault}
use Rattle.rc_serve.specs.declared.fault.ServeFault.TheVariants.{Memory, Io}
use Rattle.rc_serve.specs.declared.keeper.KeepFault.{KeepFault}
use Rattle.rc_serve.specs.declared.keeper.KeepFault.TheVariants as keep
use Rattle.rc_serve.specs.Meeting.{Doing}
use Rattle.rc_serve.specs.Serving.{AreLines, Serves, ServesFront}
use Rattle.rc_serve.specs.SessionText.{IsDoneFailing}
use Rattle.rc_graph.specs.declared.Way.{Way}

-- which line of states of a database is kept
abbrev pub Keeping : Type 1
Keeping = Database → Line → Type 0

-- what is kept is what was kept
abbrev pub IsKeptOn : Keeping → Keeping → Type 0
IsKeptOn was is = (d : Database) (line : Line) → was d line ↔ is d line

-- the line of states is kept; or it is the one that it was, and so is what is kept
abbrev pub IsKeptUp : (was is : Keeping) → Database → (here line : Line) → Type 0
IsKeptUp was is d here line = is d line ⊎ (IsKeptOn was is × (line ≡ here))

-- a line of states that is as it was is not kept again; one that was altered is, once
abbrev pub IsKeptOnce : {S : Type 0} → (Went : S → Database → Line → S → Type 0) → Database
    → (here line : Line) → (was is : S) → Type 0
IsKeptOnce Went d here line was is = ((line ≡ here) × (is ≡ was))
    ⊎ ((line ≢ here) × Went was d line is)

-- a fault of keeping, as it is told
abbrev pub of_keeping : KeepFault → ServeFault
of_keeping keep.Io = Io
of_keeping keep.Memory = Memory

-- a fault of keeping, by those that may come of it
abbrev pub IsOfKeeping : (May : KeepFault → Type 0) → ServeFault → Type 0
IsOfKeeping May Io = May keep.Io
IsOfKeeping May Memory = May keep.Memory
IsOfKeeping May other = ⊥

-- the state from before a command; a line that is none has none
abbrev pub IsBefore : Option (List Bool × Bundles) → Saying → Line → Type 0
IsBefore None saying line = (command : Command) → saying ≡ SaysStep command → ⊥
IsBefore (Some state) saying line =
    (state.0 ≡ line.current.live) × (state.1 ≡ line.current.table)

-- a line of states still has the current state from before a command
abbrev pub IsStill : Option (List Bool × Bundles) → Line → Type 0
IsStill None line = Unit {0}
IsStill (Some state) line = (line.current.live ≡ state.0) × (line.current.table ≡ state.1)

-- the line is kept, and the answer handed on; or keeping it has failed, and that is the answer
abbrev pub IsKeptAs : {A : Type 0} → (answer result : Result A ServeFault)
    → (May : KeepFault → Type 0) → (failed : Type 0) → (was is : Keeping) → Database → Line → Type 0
IsKeptAs answer result May failed was is d line = ((result ≡ answer) × is d line)
    ⊎ ((fault : KeepFault) × (result ≡ Err (of_keeping fault)) × May fault
    × (fault ≡ keep.Io → failed) × (IsKeptOn was is ⊎ is d line))

-- where a fault came, the line that stands is kept; or keeping it has failed, nothing was written
-- of its answer, and the line before is kept, of which all was answered
abbrev pub IsKeptAt : ServeFault → (May : KeepFault → Type 0) → (was is : Keeping) → Database
    → (first here line : Line) → (written : ℕ) → Type 0
IsKeptAt fault May was is d first here line written = IsKeptUp was is d first line
    ⊎ (IsOfKeeping May fault × (written ≡ 0) × IsKeptUp was is d first here)

-- the beginning of the input that was served, and what is kept of it
abbrev pub ServesFrontKept : Doing → ServeFault → (May : KeepFault → Type 0) → (was is : Keeping)
    → Exchange → Holding → Holding → Type 0
ServesFrontKept Done fault May was is io old new =
    (served : ServesFront Done fault io old new)
    × IsKeptAt fault May was is old.database old.line served.here new.line served.told.0

-- the same where these transitions fail
abbrev pub ServesFrontFailingKept : ServeFault → (May : KeepFault → Type 0) → (was is : Keeping)
    → (ℕ → Way → Bool) → Exchange → Holding → Holding → Type 0
ServesFrontFailingKept fault May was is fails =
    ServesFrontKept (IsDoneFailing fails) fault May was is

-- no lines at the beginning of an input alter the line of states
abbrev pub AltersNone : Doing → (input : Option (List ℕ)) → Database → Line → Type 0
AltersNone Done input d here =
    (left : Option (List ℕ)) (bytes rest : List ℕ) (lines : List (List ℕ)) (text : List ℕ)
    (new : Line)
    → Consumes input left bytes → AreLines lines bytes rest → Serves Done d here lines text new
    → new ≡ here
