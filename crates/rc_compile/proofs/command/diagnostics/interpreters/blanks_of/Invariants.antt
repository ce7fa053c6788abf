-- each byte before the count is a blank
use Rattle.std.proofs.Common.{◌≡◌, ℕ, ◌-◌, ◌<◌, ◌≤◌, true, length, get_or}
use Rattle.rc_compile.specs.Interpreters.{is_blank}
use Rattle.rc_compile.proofs.command.diagnostics.interpreters.blanks_of.Given as goal

abbrev pub invariant-loop-count : goal.invariant-loop-count
invariant-loop-count l =
    (l.count ≤ length l.line) × ((k : ℕ) → k < l.count → is_blank (get_or l.line k 0) ≡ true)

abbrev pub decreases-loop-count : goal.decreases-loop-count
decreases-loop-count l = length l.line - l.count
