use Rattle.std.proofs.Common.{◌≡◌, length}
use Rattle.rc_model.specs.Names.{Holds}
use Rattle.rc_update.proofs.NeedsLemmas.{Led}
use Rattle.rc_update.proofs.twins.needs_of.Given as goal

-- the set has those passed
abbrev pub invariant-loop-place : goal.invariant-loop-place
invariant-loop-place l = record {
  bound : length l.set ≡ length l.db.names;
  members : Holds l.set (Led (λ x u. x ≡ u) l.needs l.place);
}
