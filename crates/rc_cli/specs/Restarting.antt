-- The two steps of a restart: both by one session.
use Rattle.std.specs.Prelude.{◌≡◌, ◌≢◌, ◌⊎◌, ℕ, List, [], Option, Result, Ok, Err}
use Rattle.clap.specs.Words.{Text as Path}
use Rattle.rc_model.specs.Database.{Database}
use Rattle.rc_model.specs.Line.{Line}
use Rattle.rc_model.specs.Session.{Undo}
use Rattle.rc_script.specs.Says.{SaysStep}
use Rattle.rc_session.specs.Holding.{Holding}
use Rattle.rc_serve.specs.declared.ending.Ending.{Ending}
use Rattle.rc_serve.specs.declared.ending.Ending.TheVariants.{Done, Refused, Hindered}
use Rattle.rc_serve.specs.declared.fault.ServeFault.{ServeFault}
use Rattle.rc_serve.specs.Ending.{EndsIn}
use Rattle.rc_args.specs.OnceAsked.{OnceSaying, Said}
use Rattle.rc_cli.specs.Once.{ServedOnce, ServesOnce}
use Rattle.rc_cli.specs.Putting.{LeadsLine, Putting}
use Rattle.rc_cli.specs.Steps.{IsShort, ended_by, ending_behind}

-- the line of the second step: an undo with the greatest limit
abbrev pub coming_back : OnceSaying
coming_back = Said (SaysStep (Undo 4294967295 []))

-- how a restart ends whose steps end so: done where both are, and refused where the first one is
abbrev pub ending_with : (lowered raised : Ending) → Ending
ending_with Done raised = ending_behind raised
ending_with Refused raised = Refused
ending_with Hindered raised = Hindered

-- the first step was served, was not refused and has moved something, and the second one takes it
-- back
pub record ServesSteps (result : Result Ending ServeFault) (path : Option Path)
    (was is : Option (List ℕ)) (As : EndsIn) (what : OnceSaying)
    (written gained : Option (List ℕ)) (old : Holding) : Type 0 where
  pub lowered : Ending
  pub raised : Result Ending ServeFault
  pub middle : Holding
  pub held : Option (List ℕ)
  pub shown : Option (List ℕ)
  pub new : Holding
  pub ends : result ≡ ended_by (ending_with lowered) raised
  pub tried : lowered ≢ Refused
  pub first : ServesOnce path was held As lowered what written shown old middle
  pub same : middle.database ≡ old.database
  pub moved : middle.line.current.live ≢ old.line.current.live
  pub second : ServedOnce raised path held is As coming_back shown gained middle new

-- a step was refused, or a fault came
abbrev pub IsStopped : Result Ending ServeFault → Type 0
IsStopped (Ok ending) = ending ≡ Refused
IsStopped (Err fault) = Unit {0}

-- a restart whose first line says this came to this: both steps were served; or the first one
-- alone, where it is refused, a fault came, or it has moved nothing; or out of memory before it
abbrev pub Restarted : Result Ending ServeFault → Option Path → (was is : Option (List ℕ))
    → EndsIn → OnceSaying → (written gained : Option (List ℕ)) → Holding → Type 0
Restarted result path was is As what written gained old = IsShort result was is written gained
    ⊎ (((after : Holding)
    × (IsStopped result ⊎ (after.line.current.live ≡ old.line.current.live))
    × ServedOnce result path was is As what written gained old after)
    ⊎ ServesSteps result path was is As what written gained old)

-- a restart whose first line says this ended so, and has led its store so: by the first step, and
-- if that is not refused and has moved something, from there by the second one
pub record LeadsBack {S : Type 0} (Put : Putting S) (path : Option Path) (ending : Ending)
    (what : OnceSaying) (d : Database) (here : Line) (was is : S) : Type 0 where
  pub lowered : Ending
  pub middle : Line
  pub left : S
  pub first : LeadsLine Put path lowered d what here middle was left
  pub back : ((ending ≡ lowered) × (middle.current.live ≡ here.current.live) × (is ≡ left))
      ⊎ ((lowered ≢ Refused) × (middle.current.live ≢ here.current.live) × (raised : Ending)
      × (ending ≡ ending_with lowered raised)
      × (new : Line) × LeadsLine Put path raised d coming_back middle new left is)
