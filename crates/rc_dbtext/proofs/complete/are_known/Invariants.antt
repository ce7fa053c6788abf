use Rattle.std.proofs.Common.{take, All, Contains}
use Rattle.rc_dbtext.proofs.complete.are_known.Given as goal

-- the texts so far are names
abbrev pub invariant-loop-text : goal.invariant-loop-text
invariant-loop-text l = All (Contains l.names) (take l.text-index l.texts)
