use Rattle.std.proofs.Common.{map}
use Rattle.std.specs.String.{string_bytes}
use Rattle.rc_model.specs.Names.{Has}
use Rattle.rc_db.proofs.Listing.{Passed}
use Rattle.rc_update.proofs.carrying.names_of.Given as goal

-- the names of those passed that the set has
abbrev pub invariant-loop-id : goal.invariant-loop-id
invariant-loop-id l = Passed (Has l.set) l.names l.id (map string_bytes l.listed.items)
