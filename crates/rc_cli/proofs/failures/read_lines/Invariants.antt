use Rattle.std.proofs.Common.{◌≡◌, [], drop, map}
use Rattle.rc_cli.specs.Failures.{failures_of, read_lines}
use Rattle.rc_cli.proofs.failures.read_lines.Given as goal

-- what the lines say is what the rest of them says behind what those passed say
abbrev pub invariant-loop-place : goal.invariant-loop-place
invariant-loop-place l =
    read_lines [] (map (λ line. line.now) l.lines)
    ≡ read_lines (failures_of l.list.items) (map (λ line. line.now) (drop l.place l.lines))
