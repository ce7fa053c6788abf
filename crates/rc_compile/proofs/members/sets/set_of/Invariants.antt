use Rattle.std.proofs.Common.{◌≡◌, length, take, Contains}
use Rattle.rc_model.specs.Names.{Holds}
use Rattle.rc_compile.proofs.members.sets.set_of.Given as goal

-- the ids passed are in
abbrev pub invariant-loop-t : goal.invariant-loop-t
invariant-loop-t l = record {
  bound : length l.set ≡ l.bound;
  members : Holds l.set (Contains (take l.t-index l.list));
}
