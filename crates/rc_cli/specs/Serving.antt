-- How the lines of a session are served.
use Rattle.std.specs.Prelude.{◌≡◌, ◌⊎◌, ℕ, false, Result, Ok, Err}
use Rattle.rc_model.specs.Database.{Database}
use Rattle.rc_model.specs.Line.{Line}
use Rattle.rc_session.specs.Holding.{Holding}
use Rattle.rc_streams.specs.Exchange.{Exchange}
use Rattle.rc_serve.specs.declared.ending.Ending.{Ending}
use Rattle.rc_serve.specs.declared.ending.Ending.TheVariants as ending
use Rattle.rc_serve.specs.declared.fault.ServeFault.{ServeFault}
use Rattle.rc_serve.specs.declared.fault.ServeFault.TheVariants.{Memory, Io}
use Rattle.rc_serve.specs.Keeping.{Keeping}
use Rattle.rc_serve.specs.Meeting.{Doing}
use Rattle.rc_serve.specs.Playing.{PlaysInput}
use Rattle.rc_serve.specs.Serving.{ServesAll, ServesFront}

-- a session that stands on this line of states, with nothing begun
abbrev pub session_on : Database → Line → Holding
session_on d line = record { database = d; line = line; begun = false; spoiled = false }

-- what was served where commands are done so: what is kept, what a reader had and has left, what a
-- writer held and holds, and the session before and after
abbrev pub Serving : Type 1
Serving = Keeping → Doing → Exchange → Holding → Holding → Type 0

-- what was written is the answers to the whole input, its commands were played, and the line on
-- which the session stands in the end is kept
abbrev pub Serves : Serving
Serves kept Done io old new =
    ServesAll Done io old new × PlaysInput io.input io.left old new
    × kept old.database new.line

-- a fault that may come of a file or of keeping a line: out of memory,
-- or it can't be read or written
abbrev pub IsOfFile : ServeFault → Type 0
IsOfFile Memory = Unit {0}
IsOfFile Io = Unit {0}
IsOfFile other = ⊥

-- where a fault came, the line that stands is kept; or keeping it has failed, nothing was written
-- of its answer, and kept is the line before, up to which all was answered
abbrev pub KeepsAt : Keeping → ServeFault → Database → (here line : Line) → (written : ℕ) → Type 0
KeepsAt kept fault d here line written =
    kept d line ⊎ (IsOfFile fault × (written ≡ 0) × kept d here)

-- and so up to a fault: a prefix of these answers
abbrev pub ServesUpTo : ServeFault → Serving
ServesUpTo fault kept Done io old new =
    (served : ServesFront Done fault io old new)
    × PlaysInput io.input io.left old new
    × KeepsAt kept fault old.database served.here new.line served.told.0

-- a session was served up to a fault; or it was not begun, with nothing written, and all is left as
-- it was or its first line is kept
abbrev pub StopsUpTo : ServeFault → (same : Type 0) → Serving
StopsUpTo fault same kept Done io old new =
    (IsOfFile fault × (io.gained ≡ io.written) × (same ⊎ kept old.database old.line))
    ⊎ ServesUpTo fault kept Done io old new

-- lines that were served to their end are done
abbrev pub as_done : {A : Type 0} → Result A ServeFault → Result Ending ServeFault
as_done (Ok all) = Ok ending.Done
as_done (Err fault) = Err fault
