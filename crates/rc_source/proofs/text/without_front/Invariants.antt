use Rattle.std.proofs.Common.{◌≡◌, ◌-◌, ◌≤◌, drop, length}
use Rattle.rc_source.specs.Texts.{without_blanks}
use Rattle.rc_source.proofs.text.without_front.Given as goal

abbrev pub invariant-loop-start : goal.invariant-loop-start
invariant-loop-start l =
    (l.start ≤ length l.line) × (without_blanks (drop l.start l.line) ≡ without_blanks l.line)

abbrev pub decreases-loop-start : goal.decreases-loop-start
decreases-loop-start l = length l.line - l.start
