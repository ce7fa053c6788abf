use Rattle.std.proofs.Common.{ℕ, List, drop, take}
use Rattle.rc_update.specs.Conversions.{conversions_of}
use Rattle.rc_update.specs.Distinct.{AreDistinct, AreDistinctBehind, IsFirstTwice, IsTwiceBehind}
use Rattle.rc_update.proofs.distinct.first_twice.Given as goal

-- what holds of the rest of the list behind those passed holds of the whole
abbrev pub invariant-loop-place : goal.invariant-loop-place
invariant-loop-place l = record {
  distinct : AreDistinctBehind (conversions_of (take l.place l.list))
      (conversions_of (drop l.place l.list)) → AreDistinct (conversions_of l.list);
  twice : (name : List ℕ) → IsTwiceBehind (conversions_of (take l.place l.list))
      (conversions_of (drop l.place l.list)) name → IsFirstTwice (conversions_of l.list) name;
}
