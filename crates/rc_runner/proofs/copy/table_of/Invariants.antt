use Rattle.std.proofs.Common.{◌≡◌, take}
use Rattle.rc_runner.proofs.copy.table_of.Given as goal

-- the names so far are copied
abbrev pub invariant-loop-id : goal.invariant-loop-id
invariant-loop-id l = l.made ≡ take l.id l.names
