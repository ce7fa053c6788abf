use Rattle.std.proofs.Common.{◌∙◌, ap}
use Rattle.rc_model.specs.Database.{Database}
use Rattle.rc_session.proofs.States.{current_fits}
use Rattle.rc_serve.proofs.WaysShown.{placed_fits, planned_to}
use Rattle.rc_serve.proofs.ways.plan_to.Goals as goal

pub between-plan-requires-clause-from_bound : goal.between-plan-requires-clause-from_bound
between-plan-requires-clause-from_bound c =
    (current_fits c.args.session.now.database c.args.session.now.line c.graph.result.now
    c.live.result.now c.db.ensures.database c.journal-line.ensures.states
    (c.graph.ensures.graph ∙ ap (λ (d : Database). d.needs) c.db-2.ensures.db)
    (rw c.journal-line.ensures.journal at c.live.ensures)).0

pub between-plan-requires-clause-to_bound : goal.between-plan-requires-clause-to_bound
between-plan-requires-clause-to_bound c =
    (placed_fits c.args.session.now.database c.args.session.now.line c.args.place _
    c.graph.result.now c.db.ensures.database c.journal-line.ensures.states
    (c.graph.ensures.graph ∙ ap (λ (d : Database). d.needs) c.db-2.ensures.db)
    (rw c.journal-line.ensures.journal at c.in_ok-live.ensures)).0

pub between-plan-requires-clause-from_closed : goal.between-plan-requires-clause-from_closed
between-plan-requires-clause-from_closed c =
    (current_fits c.args.session.now.database c.args.session.now.line c.graph.result.now
    c.live.result.now c.db.ensures.database c.journal-line.ensures.states
    (c.graph.ensures.graph ∙ ap (λ (d : Database). d.needs) c.db-2.ensures.db)
    (rw c.journal-line.ensures.journal at c.live.ensures)).1

pub between-plan-requires-clause-to_closed : goal.between-plan-requires-clause-to_closed
between-plan-requires-clause-to_closed c =
    (placed_fits c.args.session.now.database c.args.session.now.line c.args.place _
    c.graph.result.now c.db.ensures.database c.journal-line.ensures.states
    (c.graph.ensures.graph ∙ ap (λ (d : Database). d.needs) c.db-2.ensures.db)
    (rw c.journal-line.ensures.journal at c.in_ok-live.ensures)).1

pub returns : goal.returns
returns c =
    planned_to c.args.session.now.line c.args.place c.live.result.now
    (record { live = c.in_ok-live.live; table = c.in_ok-live.table }) c.between-plan.result
    (rw c.journal-line.ensures.journal at c.live.ensures)
    (rw c.journal-line.ensures.journal at c.in_ok-live.ensures) c.between-plan.ensures
