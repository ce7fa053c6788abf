use Rattle.std.proofs.Common.{take, All, Contains}
use Rattle.rc_dbtext.proofs.Drafting.{HasAdded}
use Rattle.rc_dbtext.proofs.build.add_needs.Given as goal

-- the needs so far are in, and are names
abbrev pub invariant-loop-need : goal.invariant-loop-need
invariant-loop-need l = record {
  added : HasAdded l.names l.service l.fn.draft l.draft (take l.need-index l.needs);
  known : All (Contains l.names) (take l.need-index l.needs);
}
