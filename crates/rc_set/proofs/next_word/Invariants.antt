use Rattle.std.proofs.Common.{ℕ, ◌-◌, ◌*◌, ◌<◌, ◌≤◌, length}
use Rattle.rc_set.specs.Words.{HasBit}
use Rattle.rc_set.proofs.next_word.Given as goal

-- no bit is set from the place on, as far as it has come
abbrev pub invariant-loop-at : goal.invariant-loop-at
invariant-loop-at l = record {
  behind : l.from ≤ l.at;
  within : l.at ≤ length l.words;
  none : (s : ℕ) → 64 * l.from ≤ s → s < 64 * l.at → HasBit l.words s → ⊥;
}

abbrev pub decreases-loop-at : goal.decreases-loop-at
decreases-loop-at l = length l.words - l.at
