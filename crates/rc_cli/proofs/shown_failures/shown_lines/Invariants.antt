use Rattle.std.proofs.Common.{◌≡◌, [], drop, map}
use Rattle.rc_cli.specs.Failures.{failures_of, shown_lines}
use Rattle.rc_cli.proofs.shown_failures.shown_lines.Given as goal

-- what is shown of the lines is what is shown of the rest of them, behind what is shown so far
abbrev pub invariant-loop-place : goal.invariant-loop-place
invariant-loop-place l =
    shown_lines l.showing.only l.showing.is_cut (failures_of l.failures) []
    (map (λ line. line.now) l.lines)
    ≡ shown_lines l.showing.only l.showing.is_cut (failures_of l.failures) l.shown.items
    (map (λ line. line.now) (drop l.place l.lines))
