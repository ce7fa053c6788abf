use Rattle.std.proofs.Common.{◌↔◌, ℕ, List, map, Contains}
use Rattle.rc_source.specs.Said.{meaning_of}
use Rattle.rc_compile.specs.Given.{Gives}
use Rattle.rc_compile.proofs.Givens.{IsBelow}
use Rattle.rc_compile.proofs.tables.names_of.Given as goal

-- the table has what the definitions passed give
abbrev pub invariant-loop-definition : goal.invariant-loop-definition
invariant-loop-definition l = (name : List ℕ)
    → Contains l.names name ↔ IsBelow (λ m. Gives l.which m name) (map meaning_of l.definitions)
    l.definition-index
