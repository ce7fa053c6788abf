use Rattle.rc_compile.specs.Rows.{rows}
use Rattle.rc_compile.specs.Book.{HasPair}
use Rattle.rc_compile.proofs.Passing.{Passed}
use Rattle.rc_compile.proofs.pipes.some_unpaired.Given as goal

-- those passed are such
abbrev pub invariant-loop-name : goal.invariant-loop-name
invariant-loop-name l =
    Passed (λ name. HasPair l.names (rows l.lists) name l.to) l.from l.name-index
