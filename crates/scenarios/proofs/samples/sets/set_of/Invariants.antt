use Rattle.std.proofs.Common.{◌≡◌, length}
use Rattle.scenarios.proofs.samples.sets.set_of.Given as goal

abbrev pub invariant-loop-id : goal.invariant-loop-id
invariant-loop-id l = length l.set ≡ l.bound
