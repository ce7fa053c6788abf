use Rattle.std.proofs.lemmas.Result.{IfOk-weaker}
use Rattle.rc_model.specs.Names.{Has}
use Rattle.rc_select.proofs.TargetLemmas.{kept_essential, kept_stays}
use Rattle.rc_select.proofs.SidesLemmas.{leads_same}
use Rattle.rc_select.proofs.select.planned.Goals as goal

pub leading-requires-clause-kept_up : goal.leading-requires-clause-kept_up
leading-requires-clause-kept_up c s has =
    c.requires.essential_up s
    (kept_essential c.args.graph.now (Has c.args.essential.now) (Has c.args.wanted.now)
    c.args.request.now.mode c.args.request.now.prune s ((c.in_ok-target.ensures.keeps s).0 has))

pub leading-requires-clause-kept_stays : goal.leading-requires-clause-kept_stays
leading-requires-clause-kept_stays c s has =
    (c.in_ok-target.ensures.leads s).1
    (kept_stays c.args.graph.now (Has c.args.up.now) (Has c.args.essential.now)
    (Has c.args.wanted.now) c.requires.essential_up c.args.request.now.mode
    c.args.request.now.prune s
    ((c.in_ok-target.ensures.keeps s).0 has))

pub returns : goal.returns
returns c =
    IfOk-weaker c.leading.result _ _
    (λ plan leads. leads_same _ _ _ _ _ plan leads c.in_ok-target.ensures.leads
    c.in_ok-target.ensures.keeps) c.leading.ensures
