use Rattle.std.proofs.Common.{◌≡◌, map}
use Rattle.rc_source.specs.Said.{meaning_of}
use Rattle.rc_compile.specs.Book.{ShowsUnknown}
use Rattle.rc_compile.proofs.Givens.{IsBelow}
use Rattle.rc_compile.proofs.scan.least_unknown.Given as goal

-- none of those passed is the entry with a name that stands for nothing
abbrev pub invariant-loop-definition : goal.invariant-loop-definition
invariant-loop-definition l =
    IsBelow (λ m. (m.name ≡ l.entry) × ShowsUnknown l.book m) (map meaning_of l.definitions)
    l.definition-index → ⊥
