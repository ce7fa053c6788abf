use Rattle.std.proofs.Common.{◌∙◌, ℕ, List, Bor, IfErr, ap, map, subst}
use Rattle.rc_select.specs.Ask.{ask_of}
use Rattle.rc_cli.specs.PlanFaults.{IsNameFault}
use Rattle.rc_cli.proofs.queries.plan.plan_of.Goals as goal

pub returns-clause-fault : goal.returns-clause-fault
returns-clause-fault c =
    subst (λ (ups : List (List ℕ)). IfErr c.text_for.result
    (λ fault. IsNameFault fault c.args.db.now ups (ask_of c.args.request.now)))
    (ap (λ (ws : List (Bor (List ℕ))). map (λ w. w.now) ws) c.deref.ensures.value
    ∙ c.in_ok-ups.ensures) c.text_for.ensures.fault
