use Rattle.std.proofs.Common.{◌≡◌, [], drop, map}
use Rattle.rc_cli.specs.Failures.{ends_of, logged_ends}
use Rattle.rc_cli.proofs.failures.logged_ends.Given as goal

-- what the lines say is what the rest of them says behind what those passed say
abbrev pub invariant-loop-place : goal.invariant-loop-place
invariant-loop-place l =
    logged_ends (map (λ name. name.now) l.ups) l.stamp.time.now l.stamp.state.now []
    (map (λ line. line.now) l.lines)
    ≡ logged_ends (map (λ name. name.now) l.ups) l.stamp.time.now l.stamp.state.now
    (ends_of l.list.items) (map (λ line. line.now) (drop l.place l.lines))
