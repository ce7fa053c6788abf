use Rattle.std.proofs.Common.{◌≡◌, take}
use Rattle.rc_db.proofs.table.Table.copy.Given as goal

-- the bundles passed are copied
abbrev pub invariant-loop-place : goal.invariant-loop-place
invariant-loop-place l = l.table ≡ take l.place l.self
