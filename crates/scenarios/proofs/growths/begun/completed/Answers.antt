use Rattle.std.proofs.Common.{◌≡◌, ◌∙◌, ap}
use Rattle.rc_model.specs.Database.{Database}
use Rattle.rc_session.specs.Holding.{Holding}
use Rattle.scenarios.proofs.Shown.{shown}
use Rattle.scenarios.proofs.growths.begun.completed.Goals as goal

pub ended-requires-clause-opening : goal.ended-requires-clause-opening
ended-requires-clause-opening g c =
    (let needs : c.graph.result.now ≡ c.args.session.now.database.needs =
    c.graph.ensures.graph ∙ ap (λ (d : Database). d.needs) (c.db.ensures.db
    ∙ ap (λ (h : Holding). h.database) c.in_ok-begun.ensures.begun) in
    let plan : c.plan.result.now ≡ c.in_ok-begun.begun.plan = c.plan.ensures in
    let deadline : c.deadline.result ≡ c.in_ok-begun.begun.deadline = c.deadline.ensures in
    (shown c.args.session.now.database.needs c.graph.result.now c.in_ok-begun.begun.plan
    c.plan.result.now c.in_ok-begun.begun.deadline c.deadline.result
    c.in_ok-begun.ensures.course needs plan deadline).opening)

pub ended-requires-clause-target : goal.ended-requires-clause-target
ended-requires-clause-target g c =
    (let needs : c.graph.result.now ≡ c.args.session.now.database.needs =
    c.graph.ensures.graph ∙ ap (λ (d : Database). d.needs) (c.db.ensures.db
    ∙ ap (λ (h : Holding). h.database) c.in_ok-begun.ensures.begun) in
    let plan : c.plan.result.now ≡ c.in_ok-begun.begun.plan = c.plan.ensures in
    let deadline : c.deadline.result ≡ c.in_ok-begun.begun.deadline = c.deadline.ensures in
    (shown c.args.session.now.database.needs c.graph.result.now c.in_ok-begun.begun.plan
    c.plan.result.now c.in_ok-begun.begun.deadline c.deadline.result
    c.in_ok-begun.ensures.course needs plan deadline).target)
