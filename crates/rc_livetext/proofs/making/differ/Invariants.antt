use Rattle.std.proofs.Common.{◌≢◌, ◌+◌, ◌<◌, ℕ, get_or}
use Rattle.rc_model.specs.Line.{State}
use Rattle.rc_line.specs.State.{states_of}
use Rattle.rc_livetext.proofs.making.differ.Given as goal

-- each of the states so far differs from the next one
abbrev pub invariant-loop-place : goal.invariant-loop-place
invariant-loop-place l =
    (k : ℕ) (d : State) → k + 1 < l.place
    → get_or (states_of l.held) k d ≢ get_or (states_of l.held) (k + 1) d
