use Rattle.std.proofs.Common.{◌≤◌, ◌<◌, ℕ, length, get_or}
use Rattle.rc_board.specs.Pads.{Written}
use Rattle.rc_board.proofs.interleaving.are_read.Given as goal

-- nothing is left on the pads so far
abbrev pub invariant-loop-k : goal.invariant-loop-k
invariant-loop-k l =
    (k : ℕ) (d : Written) → k < l.k → length (get_or l.pads k d).notes ≤ get_or l.read k 0
