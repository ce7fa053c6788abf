use Rattle.std.proofs.Common.{◌≡◌, ◌<◌, length}
use Rattle.rc_model.specs.Database.{IsKind}
use Rattle.rc_model.specs.Names.{Has, Holds}
use Rattle.rc_model.specs.declared.Kind.TheVariants.{Longrun}
use Rattle.rc_cli.proofs.checking.longruns_of.Given as goal

-- the longruns of those that are passed are in
abbrev pub invariant-loop-id : goal.invariant-loop-id
invariant-loop-id l = (length l.asked ≡ length l.db.names)
    × Holds l.asked (λ s. (s < l.id) × (Has l.wanted s × IsKind l.db s Longrun))
