use Rattle.std.proofs.Common.{◌∙◌, arith}
use Rattle.rc_db.proofs.Reaching.{beside_more, beside_all}
use Rattle.rc_db.proofs.reach.next_to.Goals as goal

pub loop-s-preserved : goal.loop-s-preserved
loop-s-preserved c = record {
  bound = c.add_beside.ensures.bound ∙ c.loop-s.invariant.bound;
  members =
      beside_more c.args.graph.now c.args.way c.args.set.now c.loop-s.next c.add_beside.new.next
      c.loop-s.s c.loop-s.invariant.members c.add_beside.ensures.members;
}

pub returns : goal.returns
returns c =
    beside_all c.args.graph.now c.args.way c.args.set.now c.loop-s.next c.loop-s.s (omega arith)
    c.loop-s.invariant.members
