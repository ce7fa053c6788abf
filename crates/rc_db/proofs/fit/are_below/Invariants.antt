use Rattle.std.proofs.Common.{◌≡◌, ℕ, List, Bool, ◌<◌, length, slice_get, Some}
use Rattle.rc_db.proofs.fit.are_below.Given as goal

-- the sets passed have the bound
abbrev pub invariant-loop-place : goal.invariant-loop-place
invariant-loop-place l = (k : ℕ) (bundle : List ℕ × List Bool) → k < l.place
    → slice_get l.table k ≡ Some bundle → length bundle.1 ≡ l.bound
