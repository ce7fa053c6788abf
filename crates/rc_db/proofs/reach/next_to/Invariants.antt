use Rattle.std.proofs.Common.{◌≡◌, ◌<◌, ℕ, length}
use Rattle.rc_model.specs.Names.{Has, Holds}
use Rattle.rc_db.specs.Queries.{IsBeside}
use Rattle.rc_db.proofs.reach.next_to.Given as goal

-- what is beside the members passed
abbrev pub invariant-loop-s : goal.invariant-loop-s
invariant-loop-s l = record {
  bound : length l.next ≡ length l.graph;
  members : Holds l.next (λ t. (k : ℕ) × (k < l.s) × Has l.set k × IsBeside l.graph l.way k t);
}
