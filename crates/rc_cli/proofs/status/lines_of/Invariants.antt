use Rattle.std.proofs.Common.{◌≡◌}
use Rattle.rc_cli.specs.Status.{lines_to}
use Rattle.rc_cli.proofs.status.lines_of.Given as goal

-- the lines of the wanted that are passed
abbrev pub invariant-loop-id : goal.invariant-loop-id
invariant-loop-id l = l.text.items
    ≡ lines_to l.names l.wanted l.live l.events l.id
