use Rattle.std.proofs.Common.{◌⊎◌, take, Contains}
use Rattle.rc_compile.proofs.Mentioned.{Added}
use Rattle.rc_compile.proofs.unknown.add_unknown.Given as goal

-- the unknown ones of the names passed are in
abbrev pub invariant-loop-name : goal.invariant-loop-name
invariant-loop-name l =
    Added l.fn.unknown.items
    (λ name. Contains (take l.name-index l.names) name
    × (Contains l.services name ⊎ Contains l.bundles name → ⊥)) l.unknown.items
