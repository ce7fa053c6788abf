use Rattle.std.proofs.Common.{◌≡◌, ◌<◌, ℕ, length}
use Rattle.rc_model.specs.Names.{Has, Holds}
use Rattle.rc_update.specs.Carrying.{IsTwin}
use Rattle.rc_update.specs.Conversions.{conversions_of}
use Rattle.rc_update.proofs.carrying.carried.Given as goal

-- the set has the twins of those passed
abbrev pub invariant-loop-id : goal.invariant-loop-id
invariant-loop-id l = record {
  bound : length l.carried ≡ length l.new.names;
  members : Holds l.carried
      (λ t. (s : ℕ) × (s < l.id) × Has l.set s × IsTwin l.old l.new (conversions_of l.list) s t);
}
