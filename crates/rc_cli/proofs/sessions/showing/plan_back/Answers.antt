use Rattle.std.proofs.Common.{◌∙◌, ap, map, string_bytes}
use Rattle.rc_model.specs.Database.{Database}
use Rattle.rc_session.proofs.States.{current_fits}
use Rattle.rc_cli.proofs.ShowingLemmas.{left_fits, plans_back}
use Rattle.rc_cli.proofs.sessions.showing.plan_back.Goals as goal

pub between-back-requires-clause-from_bound : goal.between-back-requires-clause-from_bound
between-back-requires-clause-from_bound c =
    let d = c.args.session.now.database in
    (left_fits d c.args.session.now.line (map string_bytes c.args.names.now) c.args.plan.now
    c.graph.result.now c.in_ok-left.left c.without.new.self c.lower.result.now c.db.ensures.database
    c.journal-states.ensures.states c.requires.plan
    (c.graph.ensures.graph ∙ ap (λ (held : Database). held.needs) c.db-2.ensures.db)
    (c.in_ok-left.ensures ∙ c.live.ensures) c.lower.ensures c.without.ensures.bound
    c.without.ensures.members).0

pub between-back-requires-clause-to_bound : goal.between-back-requires-clause-to_bound
between-back-requires-clause-to_bound c =
    (current_fits c.args.session.now.database c.args.session.now.line c.graph.result.now
    c.live-2.result.now c.db.ensures.database c.journal-states.ensures.states
    (c.graph.ensures.graph ∙ ap (λ (held : Database). held.needs) c.db-2.ensures.db)
    c.live-2.ensures).0

pub between-back-requires-clause-from_closed : goal.between-back-requires-clause-from_closed
between-back-requires-clause-from_closed c =
    let d = c.args.session.now.database in
    (left_fits d c.args.session.now.line (map string_bytes c.args.names.now) c.args.plan.now
    c.graph.result.now c.in_ok-left.left c.without.new.self c.lower.result.now c.db.ensures.database
    c.journal-states.ensures.states c.requires.plan
    (c.graph.ensures.graph ∙ ap (λ (held : Database). held.needs) c.db-2.ensures.db)
    (c.in_ok-left.ensures ∙ c.live.ensures) c.lower.ensures c.without.ensures.bound
    c.without.ensures.members).1

pub between-back-requires-clause-to_closed : goal.between-back-requires-clause-to_closed
between-back-requires-clause-to_closed c =
    (current_fits c.args.session.now.database c.args.session.now.line c.graph.result.now
    c.live-2.result.now c.db.ensures.database c.journal-states.ensures.states
    (c.graph.ensures.graph ∙ ap (λ (held : Database). held.needs) c.db-2.ensures.db)
    c.live-2.ensures).1

pub returns : goal.returns
returns c =
    plans_back c.args.session.now.line.current.live c.live-2.result.now c.in_ok-left.left
    c.without.new.self c.lower.result.now c.args.plan.now c.between-back.result c.live-2.ensures
    (c.in_ok-left.ensures ∙ c.live.ensures) c.lower.ensures c.without.ensures.bound
    c.without.ensures.members c.between-back.ensures
