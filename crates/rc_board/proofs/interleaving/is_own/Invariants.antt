use Rattle.std.proofs.Common.{◌≡◌, length, ◌↔◌}
use Rattle.rc_board.specs.Pads.{own, events_on}
use Rattle.rc_board.proofs.interleaving.is_own.Given as goal

-- what is left of both is the same exactly where the whole is
abbrev pub invariant-loop-event : goal.invariant-loop-event
invariant-loop-event l =
    (own l.worker l.fn.events ≡ events_on l.fn.notes) ↔ (own l.worker l.events ≡ events_on l.notes)

abbrev pub decreases-loop-event : goal.decreases-loop-event
decreases-loop-event l = length l.events
