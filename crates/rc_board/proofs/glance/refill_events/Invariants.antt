use Rattle.std.proofs.Common.{◌≡◌, take, vec_capacity, vec_items}
use Rattle.rc_board.proofs.glance.refill_events.Given as goal

abbrev pub invariant-loop-event : goal.invariant-loop-event
invariant-loop-event l =
    (vec_items l.to ≡ take l.event-index l.from) × (vec_capacity l.to ≡ vec_capacity l.fn.to)
