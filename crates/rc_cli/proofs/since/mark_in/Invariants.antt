use Rattle.std.proofs.Common.{◌≡◌, drop, map}
use Rattle.rc_cli.specs.Since.{after_lines, mark_of, unknown}
use Rattle.rc_cli.proofs.since.mark_in.Given as goal

-- what the lines say is what the rest of them says after those passed
abbrev pub invariant-loop-place : goal.invariant-loop-place
invariant-loop-place l =
    after_lines l.name unknown (map (λ line. line.now) l.log)
    ≡ after_lines l.name (mark_of l.mark) (map (λ line. line.now) (drop l.place l.log))
