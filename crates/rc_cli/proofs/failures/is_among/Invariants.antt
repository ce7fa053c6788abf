use Rattle.std.proofs.Common.{◌≡◌, drop, map}
use Rattle.rc_cli.specs.Failures.{is_among}
use Rattle.rc_cli.proofs.failures.is_among.Given as goal

-- none that is passed is the name
abbrev pub invariant-loop-one : goal.invariant-loop-one
invariant-loop-one l = is_among (map (λ name. name.now) l.names) l.name
    ≡ is_among (map (λ name. name.now) (drop l.one-index l.names)) l.name
