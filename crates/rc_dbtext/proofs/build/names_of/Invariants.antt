use Rattle.std.proofs.Common.{◌≡◌, take}
use Rattle.rc_dbtext.specs.Meaning.{service_names}
use Rattle.rc_dbtext.proofs.build.names_of.Given as goal

-- the table has the names so far
abbrev pub invariant-loop-service : goal.invariant-loop-service
invariant-loop-service l = l.names ≡ take l.service-index (service_names l.services)
