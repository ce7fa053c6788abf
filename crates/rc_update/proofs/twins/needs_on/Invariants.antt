use Rattle.std.proofs.Common.{◌≡◌, ◌<◌, ℕ, get_or, length}
use Rattle.rc_model.specs.Names.{Holds}
use Rattle.rc_update.specs.Carrying.{IsTwin}
use Rattle.rc_update.specs.Conversions.{conversions_of}
use Rattle.rc_update.proofs.NeedsLemmas.{Led}
use Rattle.rc_update.proofs.twins.needs_on.Given as goal

-- the set has what those passed go on as, and each of them goes on
abbrev pub invariant-loop-place : goal.invariant-loop-place
invariant-loop-place l = record {
  bound : length l.set ≡ length l.new.names;
  members : Holds l.set (Led (IsTwin l.old l.new (conversions_of l.list)) l.needs l.place);
  all : (k : ℕ) → k < l.place
      → (u : ℕ) × IsTwin l.old l.new (conversions_of l.list) (get_or l.needs k 0) u;
}
