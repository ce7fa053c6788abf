use Rattle.std.proofs.Common.{◌≡◌, length, map}
use Rattle.rc_model.specs.Names.{Has}
use Rattle.rc_compile.specs.Rows.{rows}
use Rattle.rc_source.specs.Said.{meaning_of}
use Rattle.rc_compile.specs.Book.{IsMatchedAt}
use Rattle.rc_compile.proofs.Givens.{SeenBelow}
use Rattle.rc_compile.proofs.pipes.matched_of.Given as goal

-- the set has those that the definitions passed match
abbrev pub invariant-loop-definition : goal.invariant-loop-definition
invariant-loop-definition l = record {
  bound : length l.matched ≡ length l.services;
  members : SeenBelow (IsMatchedAt l.services (rows l.feeds)) (map meaning_of l.definitions)
      (Has l.matched) l.definition-index;
}
