use Rattle.std.proofs.Common.{◌-◌, length}
use Rattle.rc_core.proofs.Passing.{ShowsSoFar}
use Rattle.rc_core.proofs.tables.mostly_down.Given as goal

-- the services below a number stand as the set says, and all others are down
abbrev pub invariant-loop-service : goal.invariant-loop-service
invariant-loop-service l = ShowsSoFar l.up l.at l.standings.items

abbrev pub decreases-loop-service : goal.decreases-loop-service
decreases-loop-service l = length l.up - l.at
