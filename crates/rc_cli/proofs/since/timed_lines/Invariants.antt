use Rattle.std.proofs.Common.{◌≡◌, [], drop, map}
use Rattle.rc_cli.specs.Since.{timed_lines}
use Rattle.rc_cli.proofs.since.timed_lines.Given as goal

-- what the lines become is what the rest of them becomes, behind what is made so far
abbrev pub invariant-loop-place : goal.invariant-loop-place
invariant-loop-place l =
    timed_lines (map (λ line. line.now) l.log) [] (map (λ line. line.now) l.lines)
    ≡ timed_lines (map (λ line. line.now) l.log) l.timed.items
    (map (λ line. line.now) (drop l.place l.lines))
