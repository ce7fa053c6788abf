use Rattle.std.proofs.Common.{◌≡◌, deque_len, deque_capacity}
use Rattle.rc_line.proofs.stack.spend_all.Given as goal

-- the room is as it was
abbrev pub invariant-loop-stack : goal.invariant-loop-stack
invariant-loop-stack l = deque_capacity l.stack ≡ deque_capacity l.fn.stack

abbrev pub decreases-loop-stack : goal.decreases-loop-stack
decreases-loop-stack l = deque_len l.stack
