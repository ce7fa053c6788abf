use Rattle.rc_compile.proofs.Tabled.{IsFilled}
use Rattle.rc_compile.proofs.table.table_of.Given as goal

-- the bundles of the places passed
abbrev pub invariant-loop-place : goal.invariant-loop-place
invariant-loop-place l = IsFilled l.names l.sets l.place l.table
