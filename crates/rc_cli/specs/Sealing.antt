-- What `seal` makes of a session: a line of its current state alone.
use Rattle.std.specs.Prelude.{◌≡◌, ◌⊎◌, ℕ, List, [], Option, Some, Result, Ok, Err}
use Rattle.std.specs.Io.KnownBytes.{Appends}
use Rattle.rc_model.specs.Database.{Database}
use Rattle.rc_model.specs.Line.{Line}
use Rattle.rc_session.specs.Holding.{Holding}
use Rattle.rc_render.specs.Names.{ok_line}
use Rattle.rc_streams.specs.Input.{AppendsFront}
use Rattle.rc_serve.specs.declared.ending.Ending.{Ending}
use Rattle.rc_serve.specs.declared.ending.Ending.TheVariants.{Done}
use Rattle.rc_serve.specs.declared.fault.ServeFault.{ServeFault}
use Rattle.rc_serve.specs.declared.fault.ServeFault.TheVariants.{Write}
use Rattle.rc_serve.specs.Faults.{IsServeFault}
use Rattle.rc_dbtext.specs.Base.{Spells}
use Rattle.rc_cli.specs.Filing.{BeginsBy}
use Rattle.rc_cli.specs.Serving.{IsOfFile, session_on}
use Rattle.rc_cli.specs.SessionFaults.{EndsAs, IsFileFault, IsUndone, IsUnspelled}
use Rattle.rc_cli.specs.Storing.{HoldsText}
use Rattle.rc_cli.specs.declared.sessions.keeping.LiveFile.{LiveFile}
use Rattle.rc_cli.specs.declared.sessions.session_fault.SessionFault.{SessionFault}
use Rattle.rc_cli.specs.declared.sessions.session_fault.SessionFault.TheVariants.{Failed}

-- the current state alone of a line, under the same bound: there is nothing to undo or redo
abbrev pub sealed : Line → Line
sealed line = record { before = []; current = line.current; after = []; bound = line.bound }

-- a session has the current state alone of the line with which the session of a file begins
abbrev pub IsSealedBy : Database → (bound : ℕ) → LiveFile → Holding → Type 0
IsSealedBy d bound file session =
    (start : Line) × BeginsBy d bound file start × (session ≡ session_on d (sealed start))

-- a session on a database was sealed: its file holds the current state alone, and that it is done
-- was answered
pub record Seals (d : Database) (bound : ℕ) (file : LiveFile)
    (is written gained : Option (List ℕ)) : Type 0 where
  pub start : Line
  pub begins : BeginsBy d bound file start
  pub kept : HoldsText is d (sealed start)
  pub told : Appends written gained ok_line

-- a fault came where a line of states was to be kept: nothing was written, and the store is as it
-- was or holds its text; or where the answer was written, which comes after that
abbrev pub StopsKeeping : ServeFault → Database → Line → (was is written gained : Option (List ℕ))
    → Type 0
StopsKeeping fault d line was is written gained =
    (IsOfFile fault × (gained ≡ written) × ((is ≡ was) ⊎ HoldsText is d line))
    ⊎ ((fault ≡ Write) × AppendsFront written gained ok_line × HoldsText is d line)

-- what a seal on a database comes to: the session is sealed; or its file is refused or can't be
-- read, or out of memory, with nothing done; or a fault came where it was kept and answered
abbrev pub SealsOn : Result Ending SessionFault → Database → (bound : ℕ) → LiveFile
    → (was is written gained : Option (List ℕ)) → (writer keeper : Type 0) → Type 0
SealsOn (Ok ending) d bound file was is written gained writer keeper =
    (ending ≡ Done) × Seals d bound file is written gained
SealsOn (Err fault) d bound file was is written gained writer keeper =
    (IsFileFault file d fault × (gained ≡ written) × (is ≡ was))
    ⊎ ((why : ServeFault) × (fault ≡ Failed why) × IsServeFault ⊥ writer keeper why
    × ((start : Line) × BeginsBy d bound file start
    × StopsKeeping why d (sealed start) was is written gained))

-- what a seal comes to: the text is that of no database, or out of memory, with nothing done; or
-- it is, and a seal on it comes to this
abbrev pub SealsBy : Result Ending SessionFault → (base : List ℕ) → (bound : ℕ) → LiveFile
    → (was is written gained : Option (List ℕ)) → (writer keeper : Type 0) → Type 0
SealsBy result base bound file was is written gained writer keeper =
    IsUndone result (IsUnspelled (Some base) []) was is written gained
    ⊎ ((d : Database) × Spells (Some base) [] d []
    × SealsOn result d bound file was is written gained writer keeper)

-- a seal was answered, with the status of how it ended, and nothing told; or a fault is told, of
-- the writer or of the file only where that one has failed
abbrev pub SealsAs : (base : List ℕ) → (bound : ℕ) → LiveFile → (status : ℕ)
    → (was is written gained : Option (List ℕ)) → (writer keeper : Type 0)
    → (before after : Option (List ℕ)) → Type 0
SealsAs base bound file status was is written gained writer keeper before after = EndsAs
    (λ ended. SealsBy ended base bound file was is written gained writer keeper)
    status before after
