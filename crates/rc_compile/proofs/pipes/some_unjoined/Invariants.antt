use Rattle.std.proofs.Common.{IsTrue}
use Rattle.rc_compile.specs.Book.{HasNamed}
use Rattle.rc_compile.proofs.Passing.{Passed}
use Rattle.rc_compile.proofs.pipes.some_unjoined.Given as goal

-- those passed can be joined
abbrev pub invariant-loop-text : goal.invariant-loop-text
invariant-loop-text l =
    Passed (λ text. IsTrue l.is_longrun × HasNamed l.names l.longruns text) l.texts l.text-index
