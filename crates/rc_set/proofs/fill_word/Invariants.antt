use Rattle.std.proofs.Common.{ℕ}
use Rattle.rc_set.proofs.Fillings.{FillsWord}
use Rattle.rc_set.proofs.fill_word.Given as goal

-- the list is filled for the bits that are passed, and the others are left
abbrev pub invariant-loop-left : goal.invariant-loop-left
invariant-loop-left g l = (next : ℕ)
    × FillsWord l.words l.at l.left next l.fn.list l.list l.value

abbrev pub decreases-loop-left : goal.decreases-loop-left
decreases-loop-left g l = l.left
