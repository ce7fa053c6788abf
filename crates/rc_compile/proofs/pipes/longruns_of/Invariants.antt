use Rattle.std.proofs.Common.{◌≡◌, length, map}
use Rattle.rc_model.specs.Names.{Has}
use Rattle.rc_source.specs.Said.{meaning_of}
use Rattle.rc_compile.specs.Book.{IsLongrunAt}
use Rattle.rc_compile.proofs.Givens.{SeenBelow}
use Rattle.rc_compile.proofs.pipes.longruns_of.Given as goal

-- the set has the longruns passed
abbrev pub invariant-loop-definition : goal.invariant-loop-definition
invariant-loop-definition l = record {
  bound : length l.longruns ≡ length l.services;
  members : SeenBelow (IsLongrunAt l.services) (map meaning_of l.definitions) (Has l.longruns)
      l.definition-index;
}
