use Rattle.std.proofs.Common.{◌∙◌, codes, sym}
use Rattle.std.proofs.lemmas.Result.{IfErr-weaker, IfOk-weaker}
use Rattle.rc_args.proofs.DbAskedLemmas.{asked_none}
use Rattle.rc_args.specs.DbAsked.{AsksIn}
use Rattle.rc_args.proofs.InvocationLemmas.{same_rows}
use Rattle.rc_args.proofs.db_words.db_asked.Goals as goal

pub returns-in-Some-clause-asked : goal.returns-in-Some-clause-asked
returns-in-Some-clause-asked c =
    IfOk-weaker c.db_in-asked.result _ _
    (λ request asks. (_, c.in-Ok.ensures.rows (codes "db") ∙ sym c.in-Some.ensures, asks))
    c.db_in-asked.ensures.asked

pub returns-in-Some-clause-wrong : goal.returns-in-Some-clause-wrong
returns-in-Some-clause-wrong c =
    IfErr-weaker c.db_in-asked.result _ _
    (λ fault never other ask asks. never other ask (same_rows (λ rows. AsksIn rows ask) _ _ _
    (c.in-Ok.ensures.rows (codes "db") ∙ sym c.in-Some.ensures) asks.1 asks.2))
    c.db_in-asked.ensures.wrong

pub returns-in-None-clause-wrong : goal.returns-in-None-clause-wrong
returns-in-None-clause-wrong c =
    λ _. asked_none _ (c.in-Ok.ensures.rows (codes "db") ∙ sym c.in-None.ensures)

pub returns-in-Err-clause-wrong : goal.returns-in-Err-clause-wrong
returns-in-Err-clause-wrong c = λ other. asked_none _ (c.in-Err.ensures.wrong other (codes "db"))
