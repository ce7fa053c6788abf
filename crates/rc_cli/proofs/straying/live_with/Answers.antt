use Rattle.std.proofs.Common.{map, string_bytes}
use Rattle.rc_cli.proofs.StrayingLemmas.{live_closed, live_members}
use Rattle.rc_cli.proofs.straying.live_with.Goals as goal

pub returns-in-Ok-live-clause-members : goal.returns-in-Ok-live-clause-members
returns-in-Ok-live-clause-members c =
    live_members c.args.db.now c.graph.result.now c.table.result.now
    (map string_bytes c.args.strays.now) c.in-Ok.wanted c.in-Ok-live.live c.graph.ensures.graph
    c.table.ensures.table c.in-Ok.ensures.members c.in-Ok-live.ensures.members

pub returns-in-Ok-live-clause-closed : goal.returns-in-Ok-live-clause-closed
returns-in-Ok-live-clause-closed c =
    live_closed c.args.db.now c.graph.result.now c.in-Ok.wanted c.in-Ok-live.live
    c.graph.ensures.graph c.in-Ok-live.ensures.members
