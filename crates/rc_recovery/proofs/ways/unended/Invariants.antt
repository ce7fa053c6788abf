use Rattle.std.proofs.Common.{◌≡◌, take, []}
use Rattle.std.specs.List.{fold}
use Rattle.rc_recovery.specs.UnderWay.{with_taken}
use Rattle.rc_recovery.proofs.ways.unended.Given as goal

abbrev pub invariant-loop-event : goal.invariant-loop-event
invariant-loop-event l =
    l.found.items ≡ fold (with_taken l.fn.live l.fn.logged) [] (take l.event-index l.fn.logged)
