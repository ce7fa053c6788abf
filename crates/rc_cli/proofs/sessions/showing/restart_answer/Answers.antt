use Rattle.std.proofs.Common.{◌∙◌, [], List, ℕ, IfErr, IfOk, ap, subst}
use Rattle.rc_model.specs.Plan.{Ask, IsPlanOf}
use Rattle.rc_model.specs.Session.{Change, IsOwnFault}
use Rattle.rc_model.specs.declared.Mode.TheVariants.{DownAll}
use Rattle.rc_session.specs.Holding.{IsHindrance}
use Rattle.rc_cli.specs.Steps.{step_ask}
use Rattle.rc_cli.proofs.sessions.showing.restart_answer.Goals as goal

pub told_restart-requires-clause-plan : goal.told_restart-requires-clause-plan
told_restart-requires-clause-plan c =
    let h = c.args.session.now in
    subst (λ (ask : Ask). IfOk c.dry-outcome.result
    (IsPlanOf h.database h.line.current.table h.line.current.live ask))
    (c.plain-request.ensures
    ∙ ap (λ (names : List (List ℕ)). step_ask DownAll names) c.in_ok-copied.ensures)
    c.dry-outcome.ensures.plan

pub told_restart-requires-clause-refused : goal.told_restart-requires-clause-refused
told_restart-requires-clause-refused c =
    let h = c.args.session.now in
    subst (λ (ask : Ask). IfErr c.dry-outcome.result
    (IsHindrance (IsOwnFault h.database h.line (Change ask [])) h))
    (c.plain-request.ensures
    ∙ ap (λ (names : List (List ℕ)). step_ask DownAll names) c.in_ok-copied.ensures)
    c.dry-outcome.ensures.refused
