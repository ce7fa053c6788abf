use Rattle.std.proofs.Common.{◌<◌, ℕ}
use Rattle.rc_model.specs.Names.{Has}
use Rattle.rc_update.specs.Carrying.{IsTwin}
use Rattle.rc_update.specs.Conversions.{conversions_of}
use Rattle.rc_update.proofs.border.all_go_on.Given as goal

-- those passed go on
abbrev pub invariant-loop-id : goal.invariant-loop-id
invariant-loop-id l =
    (s : ℕ) → s < l.id → Has l.from s → (t : ℕ) × IsTwin l.old l.new (conversions_of l.list) s t
