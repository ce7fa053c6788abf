use Rattle.std.proofs.Common.{◌≡◌, ◌++◌, drop}
use Rattle.rc_cli.specs.Failures.{ends_of, failures_of, kept}
use Rattle.rc_cli.proofs.failures.kept.Given as goal

-- those that are kept are those kept so far, and then those of the rest
abbrev pub invariant-loop-place : goal.invariant-loop-place
invariant-loop-place l = kept (failures_of l.before) (ends_of l.ends)
    ≡ failures_of l.list.items ++ kept (failures_of (drop l.place l.before)) (ends_of l.ends)
