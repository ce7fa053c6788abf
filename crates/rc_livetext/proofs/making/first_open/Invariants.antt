use Rattle.std.proofs.Common.{All, take}
use Rattle.rc_line.specs.State.{states_of}
use Rattle.rc_livetext.specs.Parts.{HasNeeds}
use Rattle.rc_livetext.proofs.making.first_open.Given as goal

-- the states so far have what they need
abbrev pub invariant-loop-place : goal.invariant-loop-place
invariant-loop-place l = All (HasNeeds l.graph) (take l.place (states_of l.held))
