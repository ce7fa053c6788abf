use Rattle.std.proofs.Common.{◌≡◌, ◌++◌, drop}
use Rattle.rc_cli.specs.Failures.{ends_of, failures_of, last_failures, remembered}
use Rattle.rc_cli.proofs.failures.remembered.Given as goal

-- what is remembered is what is so far, and then the last failures of the rest
abbrev pub invariant-loop-place : goal.invariant-loop-place
invariant-loop-place l = failures_of l.list.items ++ last_failures (ends_of (drop l.place l.ends))
    ≡ remembered (failures_of l.before) (ends_of l.ends)
