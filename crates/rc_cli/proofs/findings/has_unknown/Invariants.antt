use Rattle.std.proofs.Common.{◌≡◌}
use Rattle.rc_cli.specs.Checking.{is_unknown_to}
use Rattle.rc_cli.proofs.findings.has_unknown.Given as goal

-- whether one of those that are passed is not known
abbrev pub invariant-loop-id : goal.invariant-loop-id
invariant-loop-id l = l.is_unknown ≡ is_unknown_to l.longruns l.answers l.id
