-- What `plan` writes: the plan in a database where the given services are up.
use Rattle.std.specs.Prelude.{◌≡◌, ℕ, List, Bool, Option, Some, length}
use Rattle.rc_model.specs.Names.{Has, Holds}
use Rattle.rc_model.specs.Graph.{IsClosed}
use Rattle.rc_model.specs.Database.{Database}
use Rattle.rc_model.specs.Plan.{PlanSets, Ask, IsPlanOf, CanPlan}
use Rattle.rc_render.specs.PlanText.{IsPlanText}
use Rattle.rc_args.specs.Asked.{plan_asked}
use Rattle.rc_dbtext.specs.Base.{Spells}
use Rattle.rc_cli.specs.Named.{AreNamed, IsNamed, word_lines}

-- the words name services that are up, with all that they need
pub record AreUp (names needs ups : List (List ℕ)) : Type 0 where
  pub known : AreNamed names ups
  pub closed : IsClosed needs (IsNamed names ups)

-- the set of the services that are up
pub record IsUpSet (names needs ups : List (List ℕ)) (up : List Bool) : Type 0 where
  pub are_up : AreUp names needs ups
  pub bound : length up ≡ length names
  pub members : Holds up (IsNamed names ups)
  pub closed : IsClosed needs (Has up)

-- the plan of what is asked, where these services are up
pub record IsPlanIn (d : Database) (up : List Bool) (ask : Ask) (plan : PlanSets) : Type 0 where
  pub can : CanPlan d.names d.table ask
  pub leads : IsPlanOf d d.table up ask plan

-- the lines of the plan of what is asked, where these are up
pub record IsTextFor (d : Database) (ups : List (List ℕ)) (ask : Ask) (text : List ℕ) : Type 0 where
  pub up : List Bool
  pub plan : PlanSets
  pub are_up : IsUpSet d.names d.needs ups up
  pub planned : IsPlanIn d up ask plan
  pub lines : IsPlanText d.names plan text

-- what is written for what is asked: the plan in the database that is spelled, where the
-- lines after it name what is up
pub record IsPlanFor (ask : Ask) (base : Option (List ℕ)) (input output : List ℕ) : Type 0 where
  pub database : Database
  pub rest : List ℕ
  pub spelled : Spells base input database rest
  pub text : IsTextFor database (word_lines rest) ask output

-- the same, of the words that ask
abbrev pub IsAnswer : List (List ℕ) → Option (List ℕ) → List ℕ → List ℕ → Type 0
IsAnswer words base input output =
    (ask : Ask) × (plan_asked words ≡ Some ask) × IsPlanFor ask base input output
