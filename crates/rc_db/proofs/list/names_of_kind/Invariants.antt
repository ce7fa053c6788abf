use Rattle.std.proofs.Common.{map}
use Rattle.rc_model.specs.Database.{IsKind}
use Rattle.rc_db.proofs.Listing.{Passed}
use Rattle.rc_db.proofs.list.names_of_kind.Given as goal

-- the names of those passed that are of the kind
abbrev pub invariant-loop-id : goal.invariant-loop-id
invariant-loop-id l =
    Passed (λ k. IsKind l.db k l.kind) l.names l.id (map (λ name. name.now) l.all.items)
