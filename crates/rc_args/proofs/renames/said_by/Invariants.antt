use Rattle.std.proofs.Common.{◌≡◌, drop, map}
use Rattle.rc_args.specs.Renames.{says_from}
use Rattle.rc_update.specs.Conversions.{conversions_of}
use Rattle.rc_args.proofs.renames.said_by.Given as goal

-- what the lines say is what the rest of them says behind what those passed say
abbrev pub invariant-loop-place : goal.invariant-loop-place
invariant-loop-place l =
    says_from 0 (conversions_of l.restarts) (map (λ line. line.now) l.lines)
    ≡ says_from l.place (conversions_of l.list.items)
    (map (λ line. line.now) (drop l.place l.lines))
