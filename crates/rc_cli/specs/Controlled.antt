-- A command that would move a longrun which no program controls.
use Rattle.std.specs.Prelude.{◌≡◌, ◌≢◌, ◌⊎◌, ℕ, List, Option, None, Some, false, map, slice_get}
use Rattle.std.specs.Prelude.{string_bytes}
use Rattle.rc_model.specs.Database.{Database, IsKind}
use Rattle.rc_model.specs.Line.{Line}
use Rattle.rc_model.specs.Names.{Has}
use Rattle.rc_model.specs.Plan.{PlanSets}
use Rattle.rc_model.specs.Session.{Command, IsTask}
use Rattle.rc_model.specs.declared.Kind.TheVariants.{Longrun}
use Rattle.rc_script.specs.Says.{SaysStep, saying_of}
use Rattle.rc_session.specs.Holding.{Holding}
use Rattle.rc_args.specs.OnceAsked.{OnceSaying, Said, once_saying_of}
use Rattle.rc_args.specs.Programs.{ByPrograms, ByTable, MakingAsk}
use Rattle.rc_args.specs.SessionAsked.{SessionAsk}
use Rattle.rc_args.specs.UpdateAsked.{UpdateAsk}
use Rattle.rc_cli.specs.Filing.{BeginsBy, file_named}
use Rattle.rc_cli.specs.Session.{Asked}
use Rattle.rc_cli.specs.declared.updating.Ahead.{Ahead}
use Rattle.rc_cli.specs.declared.sessions.keeping.LiveFile.{LiveFile}
use Rattle.rc_cli.specs.declared.sessions.service.Service.{Service}
use Rattle.rc_cli.specs.declared.sessions.service.Service.TheVariants.{Lines, Line as OneLine}
use Rattle.rc_cli.specs.declared.sessions.service.Service.TheVariants.{Restart}
use Rattle.rc_cli.specs.Steps.{lowering, raising}
use Rattle.rc_cli.specs.Updating.{IsUpdate, Parts, carried_line}

-- programs are started, and none is named that controls longruns
abbrev pub LacksControllerBy : MakingAsk → Type 0
LacksControllerBy (ByTable failing) = ⊥
LacksControllerBy (ByPrograms runner controller limit) = controller ≡ None

abbrev pub LacksController : SessionAsk → Type 0
LacksController ask = LacksControllerBy ask.making

-- a plan moves the longrun of this name
abbrev pub IsLongrunOf : Database → PlanSets → List ℕ → Type 0
IsLongrunOf d plan name = (s : ℕ) × (Has plan.raise s ⊎ Has plan.lower s) × IsKind d s Longrun
    × (slice_get d.names s ≡ Some name)

-- a command moves it, where it is not refused
abbrev pub MovesLongrunOn : Database → Line → Command → List ℕ → Type 0
MovesLongrunOn d line command name = (plan : PlanSets) × (deadline : Option ℕ)
    × IsTask d line command 0 plan deadline × IsLongrunOf d plan name

-- the same of what one line says: only a command moves anything
abbrev pub MovesBySaying : Database → Line → OnceSaying → List ℕ → Type 0
MovesBySaying d line (Said (SaysStep command)) name = MovesLongrunOn d line command name
MovesBySaying d line other name = ⊥

-- the first line of a service moves it: the one line, or of a restart that which lowers
abbrev pub MovesByService : Service → Database → Line → List ℕ → Type 0
MovesByService Lines d line name = ⊥
MovesByService (OneLine once) d line name = MovesBySaying d line (once_saying_of once.now) name
MovesByService (Restart names) d line name =
    MovesBySaying d line (lowering false (map string_bytes names.now)) name

-- it would be moved from where the session begins, and no program controls it. Where the database
-- is read from the input that is not asked
pub record IsUncontrolled (service : Service) (asked : Asked) (d : Database)
    (name : List ℕ) : Type 0 where
  pub base : asked.base ≢ None
  pub lacks : LacksController asked.ask
  pub line : Line
  pub begins : BeginsBy d asked.ask.bound (file_named asked.ask.live asked.file) line
  pub moves : MovesByService service d line name

-- one of two steps that are ahead moves it, each on its session
abbrev pub MovesAhead : Holding → Ahead → List ℕ → Type 0
MovesAhead from ahead name =
    MovesBySaying from.database from.line (Said (saying_of ahead.lowering)) name
    ⊎ MovesBySaying ahead.to.database ahead.to.line (Said (saying_of ahead.raising)) name

-- one of the two steps of an update that has these parts moves it, from where the session of the
-- old database stands
abbrev pub MovesByParts : (old new : Database) → UpdateAsk → Line → Parts → List ℕ → Type 0
MovesByParts old new ask line parts name =
    MovesBySaying old line (lowering ask.dry parts.lower) name
    ⊎ MovesBySaying new (carried_line new parts.kept line.bound) (raising ask.dry parts.raise) name

-- the same of an update from there
abbrev pub MovesByUpdate : (old new : Database) → UpdateAsk → Line → List ℕ → Type 0
MovesByUpdate old new ask line name = (parts : Parts)
    × IsUpdate old new ask.conversions line parts
    × MovesByParts old new ask line parts name

-- the same where the session of the old database begins, and no program controls it
pub record IsUncontrolledUpdate (old new : Database) (ask : UpdateAsk) (file : LiveFile)
    (name : List ℕ) : Type 0 where
  pub lacks : LacksController ask.session
  pub line : Line
  pub begins : BeginsBy old ask.session.bound (file_named ask.session.live file) line
  pub moves : MovesByUpdate old new ask line name
