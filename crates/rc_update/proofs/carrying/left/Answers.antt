use Rattle.std.proofs.Common.{◌∙◌, ap, length, sym}
use Rattle.rc_update.proofs.CarryingLemmas.{left_by}
use Rattle.rc_update.proofs.carrying.left.Goals as goal

pub down_of-requires : goal.down_of-requires
down_of-requires c =
    c.requires.bound ∙ sym c.graph.ensures.database.fit.graph
    ∙ sym (ap length c.graph.ensures.graph)

pub without-requires : goal.without-requires
without-requires c =
    c.in_ok-down_of.ensures.bound ∙ ap length c.graph.ensures.graph
    ∙ c.graph.ensures.database.fit.graph ∙ sym c.requires.live
    ∙ sym (ap length c.in_ok-stays.ensures)

pub returns-clause-bound : goal.returns-clause-bound
returns-clause-bound c =
    c.without.ensures.bound ∙ ap length c.in_ok-stays.ensures ∙ c.requires.live

pub returns-clause-members : goal.returns-clause-members
returns-clause-members c =
    left_by c.args.old.now.needs c.graph.result.now c.args.live.now c.args.altered.now
    c.in_ok-down_of.field-0 c.in_ok-stays.stays c.without.new.self c.graph.ensures.graph
    c.in_ok-stays.ensures c.in_ok-down_of.ensures.members c.without.ensures.members
