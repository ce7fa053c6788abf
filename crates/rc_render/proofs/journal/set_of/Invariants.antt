use Rattle.std.proofs.Common.{◌≡◌, length, take, Contains}
use Rattle.rc_model.specs.Names.{Holds}
use Rattle.rc_render.proofs.journal.set_of.Given as goal

-- the ids so far
abbrev pub invariant-loop-id : goal.invariant-loop-id
invariant-loop-id l = (length l.set ≡ l.bound) × Holds l.set (Contains (take l.id-index l.ids))
