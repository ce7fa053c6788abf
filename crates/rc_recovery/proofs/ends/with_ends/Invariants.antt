use Rattle.std.proofs.Common.{◌≡◌, take}
use Rattle.std.specs.List.{fold}
use Rattle.rc_recovery.specs.Ends.{with_end}
use Rattle.rc_recovery.proofs.ends.with_ends.Given as goal

abbrev pub invariant-loop-event : goal.invariant-loop-event
invariant-loop-event l =
    l.all.items ≡ fold with_end l.fn.logged (take l.event-index l.fn.logged)
