-- Where all that was planned is done, what is live is the target.
use Rattle.std.proofs.Common.{◌≡◌, List, inl, inr}
use Rattle.rc_model.specs.declared.Event.{Event}
use Rattle.rc_model.specs.Database.{Database, IsDatabase}
use Rattle.rc_model.specs.Headline.{TargetOfCommand}
use Rattle.rc_model.specs.Line.{Line}
use Rattle.rc_model.specs.Names.{Holds}
use Rattle.rc_model.specs.Plan.{Ask}
use Rattle.rc_model.specs.Session.{Change, Does, IsLineOf, Reported}
use Rattle.rc_serve.specs.declared.ending.Ending.TheVariants.{Done}
use Rattle.rc_serve.specs.Ending.{ending_of}
use Rattle.rc_serve.proofs.Arriving.{run_arrives}

-- a change that is done comes to its target
pub change_arrives : (d : Database) (here : Line) (ask : Ask) (events : List Event)
    (told : Reported) (new : Line) → IsDatabase d → IsLineOf d here
    → Does d here (Change ask events) told new → ending_of told ≡ Done
    → Holds new.current.live (TargetOfCommand d here (Change ask events))
change_arrives d here ask events told new is_db of (inl run) done =
    run_arrives d here (Change ask events) told new is_db of run done
change_arrives d here ask events told new is_db of (inr edit) done = absurd edit.altered
