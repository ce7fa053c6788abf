use Rattle.std.proofs.Common.{◌≡◌, drop}
use Rattle.rc_cli.specs.Failures.{ends_of, has_ended}
use Rattle.rc_cli.proofs.failures.has_ended.Given as goal

-- none that is passed is of the service
abbrev pub invariant-loop-end : goal.invariant-loop-end
invariant-loop-end l = has_ended (ends_of l.ends) l.name
    ≡ has_ended (ends_of (drop l.end-index l.ends)) l.name
