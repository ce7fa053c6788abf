use Rattle.std.proofs.Common.{◌≡◌, map}
use Rattle.std.specs.String.{string_bytes}
use Rattle.rc_cli.specs.Checking.{names_to}
use Rattle.rc_cli.proofs.findings.names_elsewhere.Given as goal

-- the names of those that are passed
abbrev pub invariant-loop-id : goal.invariant-loop-id
invariant-loop-id l =
    map string_bytes l.list.items ≡ names_to l.up l.names l.asked l.live l.answers l.id
