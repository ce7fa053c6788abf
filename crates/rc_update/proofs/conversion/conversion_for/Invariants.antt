use Rattle.std.proofs.Common.{◌≡◌, drop}
use Rattle.rc_update.specs.Conversions.{conversion_for, conversions_of}
use Rattle.rc_update.proofs.conversion.conversion_for.Given as goal

-- what the whole list says is what the rest of it says
abbrev pub invariant-loop-one : goal.invariant-loop-one
invariant-loop-one l = conversion_for (conversions_of l.list) l.name
    ≡ conversion_for (conversions_of (drop l.one-index l.list)) l.name
