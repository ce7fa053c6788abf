use Rattle.std.proofs.Common.{◌+◌, not, length, count_by}
use Rattle.rc_compile.specs.Rows.{rows}
use Rattle.rc_compile.proofs.Walks.{IsWalk}
use Rattle.rc_compile.proofs.members.walk.reached.Given as goal

abbrev pub invariant-loop-at : goal.invariant-loop-at
invariant-loop-at l = IsWalk (rows l.lists) l.start l.walk.seen l.walk.todo.items

-- each step leaves less to see and to follow
abbrev pub decreases-loop-at : goal.decreases-loop-at
decreases-loop-at l = count_by not l.walk.seen + length l.walk.todo.items
