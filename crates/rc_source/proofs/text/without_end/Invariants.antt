use Rattle.std.proofs.Common.{◌≡◌, ◌≤◌, take, reverse, length}
use Rattle.rc_source.specs.Texts.{without_blanks}
use Rattle.rc_source.proofs.text.without_end.Given as goal

abbrev pub invariant-loop-end : goal.invariant-loop-end
invariant-loop-end l = (l.end ≤ length l.line)
    × (without_blanks (reverse (take l.end l.line)) ≡ without_blanks (reverse l.line))

abbrev pub decreases-loop-end : goal.decreases-loop-end
decreases-loop-end l = l.end
