-- What a plan aims at and what it keeps up, as two sets.
use Rattle.std.specs.Prelude.{◌≡◌, ℕ, Bool, true, false, List, length}
use Rattle.rc_model.specs.Names.{Has, Holds}
use Rattle.rc_model.specs.declared.Mode.{Mode}
use Rattle.rc_model.specs.declared.Mode.TheVariants.{Up, Down, DownAll}
use Rattle.rc_model.specs.Plan.{Target, Kept}

-- essential services make a difference: upwards with pruning, and downwards
abbrev pub MindsEssential : Mode → Bool → Type 0
MindsEssential Up false = ⊥
MindsEssential Up true = Unit {0}
MindsEssential Down prune = Unit {0}
MindsEssential DownAll prune = ⊥

-- the sets are the target and what is kept
pub record AreSides (needs : List (List ℕ)) (up essential : List Bool) (mode : Mode) (prune : Bool)
    (wanted target kept : List Bool) : Type 0 where
  pub leads : Holds target (Target needs (Has up) (Has essential) mode prune (Has wanted))
  pub keeps : Holds kept (Kept needs (Has essential) mode prune (Has wanted))
  pub target_bound : length target ≡ length needs
  pub kept_bound : length kept ≡ length needs
