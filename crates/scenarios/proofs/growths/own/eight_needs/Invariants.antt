use Rattle.std.proofs.Common.{◌≡◌, length}
use Rattle.scenarios.proofs.growths.own.eight_needs.Given as goal

abbrev pub invariant-loop-service : goal.invariant-loop-service
invariant-loop-service l = length l.draft ≡ 10
