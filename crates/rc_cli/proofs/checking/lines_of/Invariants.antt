use Rattle.std.proofs.Common.{◌≡◌}
use Rattle.rc_cli.specs.Checking.{lines_to}
use Rattle.rc_cli.proofs.checking.lines_of.Given as goal

-- the lines of those that are passed
abbrev pub invariant-loop-id : goal.invariant-loop-id
invariant-loop-id l =
    l.text.items ≡ lines_to l.names l.asked.all l.asked.longruns l.live l.answers l.id
