use Rattle.rc_compile.proofs.Lowest.{IsLowest}
use Rattle.rc_compile.proofs.least.least_place.Given as goal

-- the least of the names passed
abbrev pub invariant-loop-place : goal.invariant-loop-place
invariant-loop-place l = IsLowest l.names l.place l.least
