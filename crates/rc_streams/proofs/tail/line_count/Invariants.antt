use Rattle.std.proofs.Common.{◌≡◌, ◌≤◌, ◌+◌, length}
use Rattle.rc_streams.specs.LastLines.{line_count}
use Rattle.rc_streams.proofs.tail.line_count.Given as goal

abbrev pub invariant-loop-byte : goal.invariant-loop-byte
invariant-loop-byte l = (l.count + line_count l.rest ≡ line_count l.fn.bytes)
    × (l.count + length l.rest ≤ length l.fn.bytes)

abbrev pub decreases-loop-byte : goal.decreases-loop-byte
decreases-loop-byte l = length l.rest
