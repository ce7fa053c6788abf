use Rattle.std.proofs.Common.{◌∙◌, inl, inr, subst, sym}
use Rattle.std.proofs.lemmas.Bool.{false≢true}
use Rattle.std.proofs.lemmas.Result.{IfErr-weaker, IfOk-weaker, err_from_is_err_and}
use Rattle.rc_historytext.specs.States.{Cuts}
use Rattle.rc_historytext.proofs.Failing.{once_cut, once_memory}
use Rattle.rc_historytext.proofs.keeping.keep_step.Goals as goal

pub returns-clause-ok : goal.returns-clause-ok
returns-clause-ok c =
    IfOk-weaker c.put_once-text.result _ _
    (λ text put. inr (
      λ there. false≢true (sym c.if-branch.false ∙ c.in_ok-stands_there.ensures.ok.1 there),
      c.deref.result.now,
      subst (Cuts c.args.session.now) (sym c.deref.ensures.value) c.in_ok-cut.ensures.ok,
      put,
    ))
    c.put_once-text.ensures.ok

pub returns-in_err-stands_there-clause-fault : goal.returns-in_err-stands_there-clause-fault
returns-in_err-stands_there-clause-fault c =
    let p = err_from_is_err_and c.from_residual.result c.from_residual.ensures.1 in
    rw (p.1, p.2)
    (inl c.in_err-stands_there.ensures.fault)

pub returns-then-branch-clause-fault : goal.returns-then-branch-clause-fault
returns-then-branch-clause-fault c =
    IfErr-weaker c.copy.result _ _
    (λ fault is. once_memory c.args.history.now c.args.session.now fault is) c.copy.ensures.fault

pub returns-in_err-cut-clause-fault : goal.returns-in_err-cut-clause-fault
returns-in_err-cut-clause-fault c =
    let p =
    err_from_is_err_and c.from_residual-in_err-cut.result c.from_residual-in_err-cut.ensures.1 in
    rw (p.1, p.2)
    (inr (
      λ there. false≢true (sym c.if-branch.false ∙ c.in_ok-stands_there.ensures.ok.1 there),
      inr (c.in_ok-stands_there.ensures.text, c.in_err-cut.ensures.fault),
    ))

pub returns-clause-fault : goal.returns-clause-fault
returns-clause-fault c =
    IfErr-weaker c.put_once-text.result _ _
    (λ fault refused. once_cut c.args.history.now c.args.session.now c.deref.result.now fault
    (subst (Cuts c.args.session.now) (sym c.deref.ensures.value) c.in_ok-cut.ensures.ok)
    (λ there. false≢true (sym c.if-branch.false ∙ c.in_ok-stands_there.ensures.ok.1 there))
    refused)
    c.put_once-text.ensures.fault
