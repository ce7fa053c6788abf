use Rattle.std.proofs.Common.{take}
use Rattle.rc_compile.specs.Walking.{Meets}
use Rattle.rc_compile.proofs.members.walk.meet_all.Given as goal

-- those passed are met
abbrev pub invariant-loop-t : goal.invariant-loop-t
invariant-loop-t l =
    Meets l.fn.walk.seen l.fn.walk.todo.items (take l.t-index l.list) l.walk.seen l.walk.todo.items
