use Rattle.std.proofs.Common.{◌≡◌, ◌<◌, ◌≤◌, ◌-◌, length}
use Rattle.rc_model.specs.Names.{Has, Holds}
use Rattle.rc_model.specs.Plan.{IsEssentialUp}
use Rattle.rc_select.proofs.select.essential_up.Given as goal

-- the set has the essential services before this one that are up
abbrev pub invariant-loop-service : goal.invariant-loop-service
invariant-loop-service l = record {
  low : l.at ≤ length l.up;
  bound : length l.set ≡ length l.db.names;
  members : Holds l.set (λ s. (s < l.at) × IsEssentialUp l.db (Has l.up) s);
}

abbrev pub decreases-loop-service : goal.decreases-loop-service
decreases-loop-service l = length l.up - l.at
