use Rattle.std.proofs.Common.{◌≡◌, ◌⊎◌, length, take, Contains}
use Rattle.rc_model.specs.Names.{Has, Holds}
use Rattle.rc_db.proofs.reach.add_all.Given as goal

-- what was there and those passed
abbrev pub invariant-loop-t : goal.invariant-loop-t
invariant-loop-t l = record {
  bound : length l.set ≡ length l.initial.set;
  members : Holds l.set (λ t. Has l.initial.set t ⊎ Contains (take l.t-index l.list) t);
}
