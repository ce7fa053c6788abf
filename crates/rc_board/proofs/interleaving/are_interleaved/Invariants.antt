use Rattle.std.proofs.Common.{◌≡◌, ◌↔◌, length}
use Rattle.rc_board.specs.Interleaving.{AreInterleaved}
use Rattle.rc_board.specs.Reading.{AreRest}
use Rattle.rc_board.proofs.interleaving.are_interleaved.Given as goal

-- what is left of both is an interleaving exactly where the whole is
abbrev pub invariant-loop-event : goal.invariant-loop-event
invariant-loop-event l =
    (AreInterleaved l.up l.pads l.fn.events ↔ AreRest l.up l.pads l.read l.events)
    × (length l.read ≡ 64)

abbrev pub decreases-loop-event : goal.decreases-loop-event
decreases-loop-event l = length l.events
