use Rattle.std.proofs.Common.{map}
use Rattle.rc_source.specs.Said.{meaning_of}
use Rattle.rc_compile.proofs.Stages.{AreFreeOf}
use Rattle.rc_compile.proofs.tests.test_flaws.Given as goal

-- none of the flaws passed is there
abbrev pub invariant-loop-flaw : goal.invariant-loop-flaw
invariant-loop-flaw l = AreFreeOf (map meaning_of l.definitions) l.flaw-index
