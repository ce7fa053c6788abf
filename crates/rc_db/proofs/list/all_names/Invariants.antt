use Rattle.std.proofs.Common.{◌≡◌, ◌+◌, ◌≤◌, length, map}
use Rattle.rc_model.specs.Database.{names_of}
use Rattle.rc_db.proofs.Listing.{Merged}
use Rattle.rc_db.proofs.list.all_names.Given as goal

-- the names of the services and bundles passed are merged
abbrev pub invariant-loop-turn : goal.invariant-loop-turn
invariant-loop-turn l = record {
  turn : l.id + l.place ≡ l._turn;
  services : l.id ≤ length l.names;
  bundles : l.place ≤ length l.table;
  merged : Merged l.names (names_of l.table) l.id l.place (map (λ name. name.now) l.all.items);
}
