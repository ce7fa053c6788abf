use Rattle.std.proofs.Common.{◌≡◌, ℕ, List, Bool, ◌<◌, slice_get, Some, Contains}
use Rattle.rc_db.proofs.fit.are_apart.Given as goal

-- the bundles passed have no service's name
abbrev pub invariant-loop-place : goal.invariant-loop-place
invariant-loop-place l = (k : ℕ) (bundle : List ℕ × List Bool) → k < l.place
    → slice_get l.table k ≡ Some bundle → Contains l.names bundle.0 → ⊥
