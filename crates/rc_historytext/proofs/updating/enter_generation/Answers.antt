use Rattle.std.proofs.Common.{inl, subst, sym}
use Rattle.std.proofs.lemmas.Result.{IfErr-weaker, IfOk-weaker, err_from_is_err_and}
use Rattle.rc_update.specs.Conversions.{conversions_of}
use Rattle.rc_historytext.specs.Updating.{IsLeft, entered}
use Rattle.rc_historytext.proofs.Presents.{begun_stands}
use Rattle.rc_historytext.proofs.Failing.{enter_refused}
use Rattle.rc_historytext.proofs.updating.enter_generation.Goals as goal

pub returns-clause-ok : goal.returns-clause-ok
returns-clause-ok c =
    IfOk-weaker c.enter_left-text.result _ _
    (λ text begins. (
      c.deref.result.now,
      subst (IsLeft c.args.history.now) (sym c.deref.ensures.value) c.in_ok-left.ensures.ok,
      begins,
    ))
    c.enter_left-text.ensures.ok

pub returns-in_err-left-clause-fault : goal.returns-in_err-left-clause-fault
returns-in_err-left-clause-fault c =
    let p = err_from_is_err_and c.from_residual.result c.from_residual.ensures.1 in
    rw (p.1, p.2)
    (inl c.in_err-left.ensures.fault)

pub returns-clause-present : goal.returns-clause-present
returns-clause-present c =
    IfOk-weaker c.enter_left-text.result _ _
    (λ text begins. begun_stands c.deref.result.now text.items
    (entered c.args.database.now c.args.session.now (conversions_of c.args.list.now)) begins)
    c.enter_left-text.ensures.ok

pub returns-clause-fault : goal.returns-clause-fault
returns-clause-fault c =
    IfErr-weaker c.enter_left-text.result _ _
    (λ fault refused. enter_refused c.args.history.now c.deref.result.now
    (conversions_of c.args.list.now) fault
    (subst (IsLeft c.args.history.now) (sym c.deref.ensures.value) c.in_ok-left.ensures.ok) refused)
    c.enter_left-text.ensures.fault
