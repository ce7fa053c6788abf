use Rattle.std.proofs.Common.{◌≡◌, length, take}
use Rattle.rc_model.specs.Names.{Holds}
use Rattle.rc_compile.specs.Joining.{HasJoined}
use Rattle.rc_compile.proofs.members.join.joined.Given as goal

-- the sets passed are joined
abbrev pub invariant-loop-t : goal.invariant-loop-t
invariant-loop-t l = record {
  bound : length l.set ≡ l.bound;
  members : Holds l.set (HasJoined l.sets l.id (take l.t-index l.list));
}
