use Rattle.std.proofs.Common.{◌≡◌, ℕ, ◌-◌, ◌^◌, ◌<◌, ◌≤◌, get_or, bit_and}
use Rattle.rc_set.proofs.clear_words.Given as goal

-- the words passed have the bits of the first alone, and the others stand as they were
abbrev pub invariant-loop-i : goal.invariant-loop-i
invariant-loop-i l =
    record {
      passed : (k : ℕ) → k < l.i
          → get_or l.words k 0 ≡ bit_and (get_or l.fn.words k 0) (2 ^ 64 - 1 - get_or l.others k 0);
      ahead : (k : ℕ) → l.i ≤ k → get_or l.words k 0 ≡ get_or l.fn.words k 0;
    }
