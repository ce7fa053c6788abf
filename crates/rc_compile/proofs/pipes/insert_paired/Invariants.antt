use Rattle.std.proofs.Common.{◌≡◌, ◌⊎◌, length, take}
use Rattle.rc_model.specs.Names.{Has, Holds}
use Rattle.rc_compile.specs.Rows.{rows}
use Rattle.rc_compile.specs.Book.{ArePairedAt}
use Rattle.rc_compile.proofs.pipes.insert_paired.Given as goal

-- those passed are in
abbrev pub invariant-loop-name : goal.invariant-loop-name
invariant-loop-name l = record {
  bound : length l.set ≡ length l.fn.set;
  members : Holds l.set
      (λ s. Has l.fn.set s ⊎ ArePairedAt l.names (rows l.lists) (take l.name-index l.from) l.to s);
}
