use Rattle.std.proofs.Common.{◌∙◌, ap, codes, sym}
use Rattle.std.proofs.lemmas.Result.{IfErr-weaker, IfOk-weaker}
use Rattle.std.specs.Option.{option_and_then}
use Rattle.rc_args.specs.Asked.{ask_in}
use Rattle.rc_args.proofs.asked.plan_asked.Goals as goal

pub returns-in-Some-clause-asked : goal.returns-in-Some-clause-asked
returns-in-Some-clause-asked c =
    IfOk-weaker c.plan_in-asked.result _ _
    (λ request is. ap (option_and_then ask_in)
    (c.in-Ok.ensures.rows (codes "plan") ∙ sym c.in-Some.ensures) ∙ is)
    c.plan_in-asked.ensures.asked

pub returns-in-Some-clause-wrong : goal.returns-in-Some-clause-wrong
returns-in-Some-clause-wrong c =
    IfErr-weaker c.plan_in-asked.result _ _
    (λ fault none other. ap (option_and_then ask_in)
    (c.in-Ok.ensures.rows (codes "plan") ∙ sym c.in-Some.ensures) ∙ none other)
    c.plan_in-asked.ensures.wrong

pub returns-in-None-clause-wrong : goal.returns-in-None-clause-wrong
returns-in-None-clause-wrong c =
    λ _. ap (option_and_then ask_in) (c.in-Ok.ensures.rows (codes "plan") ∙ sym c.in-None.ensures)

pub returns-in-Err-clause-wrong : goal.returns-in-Err-clause-wrong
returns-in-Err-clause-wrong c =
    λ other. ap (option_and_then ask_in) (c.in-Err.ensures.wrong other (codes "plan"))
