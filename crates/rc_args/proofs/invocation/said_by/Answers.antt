use Rattle.std.proofs.lemmas.Result.{IfOk-weaker, IfErr-weaker}
use Rattle.rc_args.specs.Invocation.{invocation_ask_of}
use Rattle.rc_args.proofs.InvocationLemmas.{entered_back, entered_right, wrong_asks}
use Rattle.rc_args.proofs.invocation.said_by.Goals as goal

pub returns-in-Ok-clause-asked : goal.returns-in-Ok-clause-asked
returns-in-Ok-clause-asked c =
    IfOk-weaker c.invocation_in-invocation.result _ _
    (λ invocation asks. entered_right _ _ (invocation_ask_of invocation) c.in-Ok.ensures.rows asks)
    c.invocation_in-invocation.ensures.asked

pub returns-in-Ok-clause-wrong : goal.returns-in-Ok-clause-wrong
returns-in-Ok-clause-wrong c =
    IfErr-weaker c.invocation_in-invocation.result _ _
    (λ fault never other ask asks. never other ask (entered_back _ _ ask c.in-Ok.ensures.rows asks))
    c.invocation_in-invocation.ensures.wrong

pub returns-in-Err-clause-wrong : goal.returns-in-Err-clause-wrong
returns-in-Err-clause-wrong c = λ other. wrong_asks _ (c.in-Err.ensures.wrong other)
