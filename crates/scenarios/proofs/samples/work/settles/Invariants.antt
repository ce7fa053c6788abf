use Rattle.std.proofs.Common.{◌≡◌}
use Rattle.scenarios.proofs.samples.work.settles.Given as goal

abbrev pub invariant-loop : goal.invariant-loop
invariant-loop l = l.run.course ≡ l.fn.run.course
