use Rattle.std.proofs.Common.{◌≡◌, ◌++◌, codes}
use Rattle.rc_cli.specs.Showing.{down_names}
use Rattle.rc_cli.proofs.sessions.showing.down_text.Given as goal

-- the names of what is passed and not live
abbrev pub invariant-loop-id : goal.invariant-loop-id
invariant-loop-id l = l.text.items ≡ codes "down" ++ down_names l.names l.live l.id
