use Rattle.std.proofs.Common.{◌≡◌, ◌<◌, length}
use Rattle.rc_model.specs.Names.{Holds}
use Rattle.rc_cli.proofs.status.all_of.Given as goal

-- those that are passed are in
abbrev pub invariant-loop-id : goal.invariant-loop-id
invariant-loop-id l = (length l.all ≡ length l.names) × Holds l.all (λ s. s < l.id)
