use Rattle.std.proofs.Common.{◌-◌, length}
use Rattle.rc_core.specs.Ready.{IsCountUp}
use Rattle.rc_core.proofs.Passing.{CountsSoFar}
use Rattle.rc_core.proofs.ready.count_needed.Given as goal

-- the members below a number have their counts
abbrev pub invariant-loop-service : goal.invariant-loop-service
invariant-loop-service l =
    CountsSoFar (IsCountUp l.graph l.up) l.raise l.at l.fn.waits.items l.waits.items

abbrev pub decreases-loop-service : goal.decreases-loop-service
decreases-loop-service l = length l.raise - l.at
