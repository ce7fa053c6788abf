use Rattle.std.proofs.Common.{◌≡◌, drop}
use Rattle.rc_update.specs.Conversions.{is_taken, conversions_of}
use Rattle.rc_update.proofs.conversion.is_taken.Given as goal

-- what the whole list says is what the rest of it says
abbrev pub invariant-loop-one : goal.invariant-loop-one
invariant-loop-one l = is_taken (conversions_of l.list) l.name
    ≡ is_taken (conversions_of (drop l.one-index l.list)) l.name
