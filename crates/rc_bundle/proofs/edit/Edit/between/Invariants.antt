use Rattle.std.proofs.Common.{◌+◌, ◌-◌, length}
use Rattle.rc_bundle.proofs.Walking.{IsWalked}
use Rattle.rc_bundle.proofs.edit.Edit.between.Given as goal

-- the names before the two places are done
abbrev pub invariant-loop-i : goal.invariant-loop-i
invariant-loop-i l = IsWalked l.from l.i l.to l.j l.changes.items

abbrev pub decreases-loop-i : goal.decreases-loop-i
decreases-loop-i l = (length l.from - l.i) + (length l.to - l.j)
