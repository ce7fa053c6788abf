-- The two steps of an update: one by the old database, and one by the new.
use Rattle.std.specs.Prelude.{◌≡◌, ◌≢◌, ◌⊎◌, ◌∷◌, ℕ, Bool, List, [], Option}
use Rattle.std.specs.Prelude.{Result, Ok, Err, length, map}
use Rattle.std.specs.String.{string_bytes}
use Rattle.rc_graph.specs.declared.Way.{Way}
use Rattle.rc_graph.specs.declared.Way.TheVariants.{Lower, Raise}
use Rattle.clap.specs.Words.{Text as Path}
use Rattle.rc_model.specs.Names.{Has, Holds}
use Rattle.rc_model.specs.Database.{Database}
use Rattle.rc_model.specs.Line.{Line}
use Rattle.rc_session.specs.Holding.{Holding}
use Rattle.rc_serve.specs.declared.ending.Ending.{Ending}
use Rattle.rc_serve.specs.declared.ending.Ending.TheVariants.{Done}
use Rattle.rc_serve.specs.declared.fault.ServeFault.{ServeFault}
use Rattle.rc_serve.specs.Ending.{EndsIn}
use Rattle.rc_args.specs.Listed.{Listed}
use Rattle.rc_args.specs.OnceAsked.{OnceSaying, Said}
use Rattle.rc_args.specs.UpdateAsked.{UpdateAsk}
use Rattle.rc_script.specs.Says.{saying_of}
use Rattle.rc_args.specs.Programs.{ByPrograms, ByTable, MakingAsk}
use Rattle.rc_cli.specs.Once.{ServedOnce, ServesOnce}
use Rattle.rc_cli.specs.Putting.{LeadsSteps, Putting}
use Rattle.rc_cli.specs.Services.{IsDoneFor}
use Rattle.rc_cli.specs.Serving.{session_on}
use Rattle.rc_cli.specs.Steps.{ended_by, ending_behind, lowering, raising}
use Rattle.rc_update.specs.Carrying.{AreNamesOf, Carried, IsAlteredUp, StaysUp}
use Rattle.rc_update.specs.Conversions.{Conversion}
use Rattle.rc_update.specs.declared.carrying.Update.{Update}
use Rattle.rc_cli.specs.declared.updating.Ahead.{Ahead}

-- of transitions that are listed those of one way
abbrev pub listed_by : Way → Way → Listed → List Listed → List Listed
listed_by Raise Raise one more = one ∷ more
listed_by Raise Lower one more = more
listed_by Lower Raise one more = more
listed_by Lower Lower one more = one ∷ more

abbrev pub listed_on : Way → List Listed → List Listed
listed_on way [] = []
listed_on way (one ∷ more) = listed_by way one.way one (listed_on way more)

-- how the transitions of one way are made: by a table of those of this way, or by the programs
abbrev pub making_on : Way → MakingAsk → MakingAsk
making_on way (ByTable failing) = ByTable (listed_on way failing)
making_on way (ByPrograms runner controller limit) = ByPrograms runner controller limit

-- this holds where the commands of both steps are done as it is asked: those of the first one with
-- what is listed of the ways down, by the old database, and those of the second one with what is
-- listed of the ways up, by the new one
abbrev pub AreDoneFor : (old new : Database) → (workers : ℕ) → MakingAsk
    → (EndsIn → EndsIn → Type 0) → Type 0
AreDoneFor old new workers making Comes =
    IsDoneFor old workers (making_on Lower making) (λ Does As.
    IsDoneFor new workers (making_on Raise making) (λ Do At. Comes As At))

-- the line with which a database begins where these services are live: one state, and its bundles
abbrev pub carried_line : Database → List Bool → ℕ → Line
carried_line d live bound = record {
  before = [];
  current = record { live = live; table = d.table };
  after = [];
  bound = bound;
}

-- the names that are lowered, the services of the new database that stay live, and the names that
-- are raised
pub record Parts : Type 0 where
  pub lower : List (List ℕ)
  pub kept : List Bool
  pub raise : List (List ℕ)

-- the same of what the program has
abbrev pub parts_of : Update → Parts
parts_of update = record {
  lower = map string_bytes update.lower.items;
  kept = update.kept;
  raise = map string_bytes update.raise.items;
}

-- what an update does from where a line stands, with these conversions: what is live and altered,
-- gone or to be restarted is lowered, what neither is such nor needs it stays, and what is live and
-- goes on is raised
pub record IsUpdate (old new : Database) (list : List Conversion) (line : Line) (parts : Parts)
    : Type 0 where
  pub lower : AreNamesOf old (IsAlteredUp old new list (Has line.current.live)) parts.lower
  pub kept : Holds parts.kept (Carried old new list (StaysUp old new list (Has line.current.live)))
  pub bound : length parts.kept ≡ length new.names
  pub raise : AreNamesOf new (Carried old new list (Has line.current.live)) parts.raise

-- the first of two lines was done, and the second one, on another session, came to this
pub record ServesBoth (result : Result Ending ServeFault) (path : Option Path)
    (was is : Option (List ℕ)) (As At : EndsIn) (what then : OnceSaying)
    (written gained : Option (List ℕ)) (from to : Holding) : Type 0 where
  pub raised : Result Ending ServeFault
  pub middle : Holding
  pub after : Holding
  pub held : Option (List ℕ)
  pub shown : Option (List ℕ)
  pub ends : result ≡ ended_by ending_behind raised
  pub first : ServesOnce path was held As Done what written shown from middle
  pub second : ServedOnce raised path held is At then shown gained to after

-- not all of a line is done, or a fault came
abbrev pub IsNotDone : Result Ending ServeFault → Type 0
IsNotDone (Ok ending) = ending ≢ Done
IsNotDone (Err fault) = Unit {0}

-- two lines came to this: the first one where not all of it is done, with nothing of the second;
-- else both, and the update is hindered where the second one is not done
abbrev pub ServedBoth : Result Ending ServeFault → Option Path → (was is : Option (List ℕ))
    → (As At : EndsIn) → (what then : OnceSaying) → (written gained : Option (List ℕ))
    → (from to : Holding) → Type 0
ServedBoth result path was is As At what then written gained from to =
    (IsNotDone result × ((after : Holding)
    × ServedOnce result path was is As what written gained from after))
    ⊎ ServesBoth result path was is As At what then written gained from to

-- the session of the new database, with what stays live of the old one
abbrev pub session_with : Database → Parts → Holding → Holding
session_with new parts from = session_on new (carried_line new parts.kept from.line.bound)

-- what is ahead of an update from where the session of the old database stands: the session of
-- the new one, with what stays live, and the lines of both steps
pub record IsAhead (ask : UpdateAsk) (from : Holding) (new : Database) (ahead : Ahead)
    : Type 0 where
  pub parts : Parts
  pub update : IsUpdate from.database new ask.conversions from.line parts
  pub to : ahead.to ≡ session_with new parts from
  pub lowers : Said (saying_of ahead.lowering) ≡ lowering ask.dry parts.lower
  pub raises : Said (saying_of ahead.raising) ≡ raising ask.dry parts.raise

-- an update from where a session stands came to this
abbrev pub Updated : Result Ending ServeFault → Option Path → (was is : Option (List ℕ))
    → (As At : EndsIn) → List Conversion → (dry : Bool)
    → (written gained : Option (List ℕ)) → Holding → Database → Type 0
Updated result path was is As At list dry written gained from new = (parts : Parts)
    × IsUpdate from.database new list from.line parts
    × ServedBoth result path was is As At (lowering dry parts.lower) (raising dry parts.raise)
    written gained from (session_with new parts from)

-- an update from where a session stands ended so, and has led its store so
abbrev pub LeadsFrom : {S : Type 0} → Putting S → (Enters : S → S → Type 0) → UpdateAsk → Ending
    → Holding → Database → (was is : S) → Type 0
LeadsFrom Put Enters ask ending from new was is = (parts : Parts)
    × IsUpdate from.database new ask.conversions from.line parts
    × LeadsSteps Put Enters ask.session.live ending (lowering ask.dry parts.lower)
    (raising ask.dry parts.raise) from (session_with new parts from) was is
