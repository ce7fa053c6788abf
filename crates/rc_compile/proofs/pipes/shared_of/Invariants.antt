use Rattle.std.proofs.Common.{◌≡◌, length, map}
use Rattle.rc_model.specs.Names.{Holds}
use Rattle.rc_source.specs.Said.{meaning_of}
use Rattle.rc_compile.specs.Book.{GivesAt}
use Rattle.rc_compile.proofs.Givens.{IsBelow}
use Rattle.rc_compile.proofs.Sharing.{TwiceBelow}
use Rattle.rc_compile.proofs.pipes.shared_of.Given as goal

-- the sets have what one, and what two of the definitions passed give
abbrev pub invariant-loop-definition : goal.invariant-loop-definition
invariant-loop-definition l = record {
  bound_seen : length l.seen ≡ length l.bundles;
  bound_shared : length l.shared ≡ length l.bundles;
  seen : Holds l.seen
      (λ s. IsBelow (λ m. GivesAt l.bundles m s) (map meaning_of l.definitions) l.definition-index);
  shared : Holds l.shared (TwiceBelow (map meaning_of l.definitions) l.bundles l.definition-index);
}
