use Rattle.std.proofs.Common.{◌≡◌, map, take}
use Rattle.rc_db.proofs.list.service_names.Given as goal

-- the names passed
abbrev pub invariant-loop-id : goal.invariant-loop-id
invariant-loop-id l = map (λ name. name.now) l.all.items ≡ take l.id l.names
