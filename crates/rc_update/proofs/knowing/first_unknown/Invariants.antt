use Rattle.std.proofs.Common.{ℕ, List, drop}
use Rattle.rc_update.specs.Conversions.{conversions_of}
use Rattle.rc_update.specs.Knowing.{AreKnown, IsFirstStranger}
use Rattle.rc_update.proofs.knowing.first_unknown.Given as goal

-- what holds of the rest of the list holds of the whole
abbrev pub invariant-loop-one : goal.invariant-loop-one
invariant-loop-one l = record {
  known : AreKnown l.old l.new (conversions_of (drop l.one-index l.list))
      → AreKnown l.old l.new (conversions_of l.list);
  stranger : (name : List ℕ)
      → IsFirstStranger l.old l.new (conversions_of (drop l.one-index l.list)) name
      → IsFirstStranger l.old l.new (conversions_of l.list) name;
}
