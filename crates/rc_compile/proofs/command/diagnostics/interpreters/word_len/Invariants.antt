-- no byte before the count ends the word
use Rattle.std.proofs.Common.{◌≡◌, ℕ, ◌-◌, ◌<◌, ◌≤◌, false, length, get_or}
use Rattle.rc_compile.specs.Interpreters.{ends_word}
use Rattle.rc_compile.proofs.command.diagnostics.interpreters.word_len.Given as goal

abbrev pub invariant-loop-count : goal.invariant-loop-count
invariant-loop-count l =
    (l.count ≤ length l.line) × ((k : ℕ) → k < l.count → ends_word (get_or l.line k 0) ≡ false)

abbrev pub decreases-loop-count : goal.decreases-loop-count
decreases-loop-count l = length l.line - l.count
