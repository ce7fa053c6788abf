use Rattle.std.proofs.Common.{◌≡◌, map, take}
use Rattle.rc_model.specs.Database.{names_of}
use Rattle.rc_db.proofs.list.bundle_names.Given as goal

-- the names of the bundles passed
abbrev pub invariant-loop-place : goal.invariant-loop-place
invariant-loop-place l = map (λ name. name.now) l.all.items ≡ take l.place (names_of l.table)
