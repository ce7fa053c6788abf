use Rattle.std.proofs.Common.{◌≡◌, ◌↔◌, List, ℕ, map, Contains}
use Rattle.rc_source.specs.Said.{meaning_of}
use Rattle.rc_compile.specs.Book.{HasSought}
use Rattle.rc_compile.proofs.Givens.{IsBelow}
use Rattle.rc_compile.proofs.scan.with_sought.Given as goal

-- the names of those passed that have what is sought
abbrev pub invariant-loop-definition : goal.invariant-loop-definition
invariant-loop-definition l =
    let ms = map meaning_of l.definitions in
    (s : List ℕ)
    → Contains l.names.items s ↔ IsBelow (λ m. (m.name ≡ s) × HasSought ms l.sought m.name) ms
    l.definition-index
