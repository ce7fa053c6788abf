use Rattle.std.proofs.Common.{◌∙◌, ap, length, sym}
use Rattle.rc_model.specs.Names.{Has}
use Rattle.rc_model.specs.Plan.{IsEssentialUp, IsWanted}
use Rattle.rc_select.specs.Ask.{ask_of}
use Rattle.rc_select.proofs.TargetLemmas.{same_target, same_kept}
use Rattle.rc_select.proofs.SidesLemmas.{leads_same}
use Rattle.rc_select.proofs.select.plan.Goals as goal

pub planned-requires-clause-up_bound : goal.planned-requires-clause-up_bound
planned-requires-clause-up_bound c =
    c.requires.bound ∙ sym c.graph.ensures.database.fit.graph
    ∙ sym (ap length c.graph.ensures.graph)

pub planned-requires-clause-essential_bound : goal.planned-requires-clause-essential_bound
planned-requires-clause-essential_bound c =
    c.in_ok-essential.ensures.bound ∙ sym c.graph.ensures.database.fit.graph
    ∙ sym (ap length c.graph.ensures.graph)

pub planned-requires-clause-wanted_bound : goal.planned-requires-clause-wanted_bound
planned-requires-clause-wanted_bound c =
    c.in_ok-wanted.ensures.bound ∙ sym c.graph.ensures.database.fit.graph
    ∙ sym (ap length c.graph.ensures.graph)

pub planned-requires-clause-essential_up : goal.planned-requires-clause-essential_up
planned-requires-clause-essential_up c = c.in_ok-essential.ensures.up

pub returns-clause-plan : goal.returns-clause-plan
returns-clause-plan c =
    let request = c.args.request.now in
    let up = Has c.args.up.now in
    let put = Has c.in_ok-essential.essential in
    let essential = IsEssentialUp c.args.db.now up in
    let asked = Has c.in_ok-wanted.wanted in
    let wanted = IsWanted c.args.db.now.names c.args.table.now up (ask_of request) in
    let minds = c.in_ok-essential.ensures.members in
    let members = c.in_ok-wanted.ensures.members in
    leads_same _ _ _ _ _ _ (rw (← c.graph.ensures.graph) c.in_ok-plan.ensures)
    (same_target c.args.db.now.needs up put essential asked wanted request.mode request.prune minds
    members)
    (same_kept c.args.db.now.needs up put essential asked wanted request.mode request.prune minds
    members)
