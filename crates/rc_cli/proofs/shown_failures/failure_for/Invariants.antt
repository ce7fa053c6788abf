use Rattle.std.proofs.Common.{◌≡◌, drop}
use Rattle.rc_cli.specs.Failures.{failure_for, failures_of}
use Rattle.rc_cli.proofs.shown_failures.failure_for.Given as goal

-- none that is passed is of the service
abbrev pub invariant-loop-failure : goal.invariant-loop-failure
invariant-loop-failure l = failure_for (failures_of l.failures) l.name
    ≡ failure_for (failures_of (drop l.failure-index l.failures)) l.name
