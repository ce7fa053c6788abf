-- What was found up and is not live is brought down.
use Rattle.std.specs.Prelude.{◌≡◌, ◌⊎◌, ℕ, List, [], Bool, Option, Some, Result, Ok, Err, false}
use Rattle.std.specs.Prelude.{length}
use Rattle.std.specs.Io.KnownBytes.{Appends}
use Rattle.rc_model.specs.Database.{Database, Selected}
use Rattle.rc_model.specs.Graph.{UpFrom}
use Rattle.rc_model.specs.Line.{Line}
use Rattle.rc_model.specs.Names.{Holds}
use Rattle.rc_model.specs.declared.Mode.TheVariants.{DownAll}
use Rattle.rc_session.specs.Holding.{Holding}
use Rattle.rc_dbtext.specs.Base.{Spells}
use Rattle.rc_serve.specs.Ending.{Ends, EndsIn}
use Rattle.rc_serve.specs.Faults.{IsServeFault}
use Rattle.rc_serve.specs.declared.ending.Ending.{Ending}
use Rattle.rc_serve.specs.declared.fault.ServeFault.{ServeFault}
use Rattle.rc_args.specs.Programs.{MakingAsk}
use Rattle.rc_args.specs.SessionAsked.{SessionAsk}
use Rattle.rc_cli.specs.Gating.{IsGateless}
use Rattle.rc_cli.specs.Services.{IsDoneFor}
use Rattle.rc_cli.specs.Serving.{session_on}
use Rattle.rc_cli.specs.SessionFaults.{EndsAs, IsUnspelled}
use Rattle.rc_cli.specs.Steps.{step_ask, step_by}
use Rattle.rc_cli.specs.Updating.{carried_line}
use Rattle.rc_cli.specs.declared.sessions.session_fault.SessionFault.{SessionFault}
use Rattle.rc_cli.specs.declared.sessions.session_fault.SessionFault.TheVariants.{Failed}

-- the session of its own in which strays are lowered: they and what they need are live there, and
-- nothing else
abbrev pub IsStraySession : Database → (strays : List (List ℕ)) → Holding → Type 0
IsStraySession d strays session = (live : List Bool) × (length live ≡ length d.names)
    × Holds live (UpFrom d.needs (Selected d.names d.table strays))
    × (session ≡ session_on d (carried_line d live 3))

-- a session was asked to lower strays with all that needs them, and it ended so
abbrev pub LowersOn : EndsIn → Ending → (strays : List (List ℕ))
    → (written gained : Option (List ℕ)) → (old new : Holding) → Type 0
LowersOn As ending strays written gained old new = (text : List ℕ)
    × Ends As ending old.database old.line (step_by false (step_ask DownAll strays)) text new.line
    × Appends written gained text

-- and so in the session of the strays
abbrev pub LowersAs : EndsIn → Ending → Database → (strays : List (List ℕ))
    → (written gained : Option (List ℕ)) → Type 0
LowersAs As ending d strays written gained = (old : Holding) × (new : Holding)
    × IsStraySession d strays old × LowersOn As ending strays written gained old new

-- why strays are not lowered on a database: there is no gate; or serving has failed
abbrev pub IsUnlowered : Database → MakingAsk → (writer : Type 0) → SessionFault → Type 0
IsUnlowered d making writer fault = IsGateless d making fault
    ⊎ ((why : ServeFault) × (fault ≡ Failed why) × IsServeFault ⊥ writer ⊥ why)

-- what it comes to on a database to lower strays
abbrev pub LowersFor : Result Ending SessionFault → Database → SessionAsk
    → (strays : List (List ℕ)) → (writer : Type 0) → (written gained : Option (List ℕ)) → Type 0
LowersFor (Ok ending) d ask strays writer written gained =
    IsDoneFor d ask.workers ask.making (λ Does As. LowersAs As ending d strays written gained)
LowersFor (Err fault) d ask strays writer written gained = IsUnlowered d ask.making writer fault

-- the same by the text of the database, which may be refused
abbrev pub LowersBy : Result Ending SessionFault → (base : List ℕ) → SessionAsk
    → (strays : List (List ℕ)) → (writer : Type 0) → (written gained : Option (List ℕ)) → Type 0
LowersBy ended base ask strays writer written gained =
    ((fault : SessionFault) × (ended ≡ Err fault) × IsUnspelled (Some base) [] fault)
    ⊎ ((d : Database) × Spells (Some base) [] d []
    × LowersFor ended d ask strays writer written gained)

-- strays were lowered, with the status of how that ended; or a fault is told
abbrev pub LowersStrays : (base : List ℕ) → SessionAsk → (strays : List (List ℕ)) → (status : ℕ)
    → (writer : Type 0) → (written gained before after : Option (List ℕ)) → Type 0
LowersStrays base ask strays status writer written gained before after =
    EndsAs (λ ended. LowersBy ended base ask strays writer written gained) status before after
