use Rattle.std.proofs.Common.{◌≡◌, take}
use Rattle.rc_bundle.proofs.edit.copy_changes.Given as goal

-- the alterations passed are copied
abbrev pub invariant-loop-change : goal.invariant-loop-change
invariant-loop-change l = l.copies.items ≡ take l.change-index l.changes
