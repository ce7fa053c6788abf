use Rattle.rc_dbtext.proofs.Drafting.{HasDrafted, NeedKnown}
use Rattle.rc_dbtext.proofs.build.draft_of.Given as goal

-- the services so far are in, and what they need are names
abbrev pub invariant-loop-s : goal.invariant-loop-s
invariant-loop-s l = record {
  drafted : HasDrafted l.names l.services l.draft l.s;
  known : NeedKnown l.names l.services l.s;
}
