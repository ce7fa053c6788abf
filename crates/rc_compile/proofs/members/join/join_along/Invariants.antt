use Rattle.std.proofs.Common.{◌≡◌, length, take}
use Rattle.rc_compile.specs.Joining.{AllWithin}
use Rattle.rc_compile.proofs.Joins.{AreJoined}
use Rattle.rc_compile.proofs.members.join.join_along.Given as goal

-- those passed are joined
abbrev pub invariant-loop-s : goal.invariant-loop-s
invariant-loop-s l = record {
  few : length l.sets ≡ length l.fn.sets;
  bounds : AllWithin l.bound l.sets;
  sets : AreJoined l.graph (take l.s-index l.order) l.fn.sets l.sets;
}
