use Rattle.std.proofs.Common.{◌<◌, ℕ}
use Rattle.rc_model.specs.Names.{Has}
use Rattle.rc_model.specs.Database.{IsKind}
use Rattle.rc_model.specs.declared.Kind.TheVariants.{Longrun}
use Rattle.rc_cli.proofs.controlled.longrun_in.Given as goal

-- none of those passed is a longrun of the set
abbrev pub invariant-loop-service : goal.invariant-loop-service
invariant-loop-service l =
    (s : ℕ) → s < l.service → Has l.set s → IsKind l.db s Longrun → ⊥
