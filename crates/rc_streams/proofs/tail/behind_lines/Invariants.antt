use Rattle.std.proofs.Common.{◌≡◌, length}
use Rattle.rc_streams.specs.LastLines.{behind_lines}
use Rattle.rc_streams.proofs.tail.behind_lines.Given as goal

abbrev pub invariant-loop-left : goal.invariant-loop-left
invariant-loop-left l = behind_lines l.left l.rest ≡ behind_lines l.fn.count l.fn.bytes

abbrev pub decreases-loop-left : goal.decreases-loop-left
decreases-loop-left l = length l.rest
