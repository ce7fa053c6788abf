use Rattle.std.proofs.Common.{◌≡◌, ◌<◌, ℕ, length}
use Rattle.rc_model.specs.Names.{Has, Holds}
use Rattle.rc_update.specs.Carrying.{IsAlteredUp, IsUnaltered}
use Rattle.rc_update.specs.Conversions.{conversions_of}
use Rattle.rc_update.proofs.carrying.altered.Given as goal

-- the set has those passed that are up, and altered or gone
abbrev pub invariant-loop-id : goal.invariant-loop-id
invariant-loop-id l = record {
  bound : length l.set ≡ length l.old.names;
  members : Holds l.set
      (λ s. (s < l.id) × IsAlteredUp l.old l.new (conversions_of l.list) (Has l.live) s);
  spared : (s : ℕ) → s < l.id → Has l.live s → (Has l.set s → ⊥)
      → IsUnaltered l.old l.new (conversions_of l.list) s;
}
