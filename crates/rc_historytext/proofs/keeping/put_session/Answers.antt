use Rattle.std.proofs.Common.{inl}
use Rattle.std.proofs.lemmas.Result.{IfErr-weaker, IfOk-weaker, err_from_is_err_and}
use Rattle.rc_historytext.proofs.Failing.{put_either, put_memory}
use Rattle.rc_historytext.proofs.Presents.{at_place}
use Rattle.rc_historytext.proofs.keeping.put_session.Goals as goal

pub returns-in-Ok-clause-ok : goal.returns-in-Ok-clause-ok
returns-in-Ok-clause-ok c =
    let form = c.in_ok-form.form in
    let read = c.in_ok-form.ensures.ok in
    let there = at_place form.generations form.present read.0.present in
    IfOk-weaker c.written.result _ _
    (λ text written. (
      form,
      there.0,
      c.put.new.form,
      record { is = read.0; spelled = read.1; there = there.1 },
      c.in-Ok.ensures.ok there.0 there.1,
      written,
    ))
    c.written.ensures.ok

pub returns-in_err-form-clause-fault : goal.returns-in_err-form-clause-fault
returns-in_err-form-clause-fault c =
    let p = err_from_is_err_and c.from_residual.result c.from_residual.ensures.1 in
    rw (p.1, p.2)
    (inl (inl c.in_err-form.ensures.fault))

pub returns-in-Ok-clause-fault : goal.returns-in-Ok-clause-fault
returns-in-Ok-clause-fault c =
    IfErr-weaker c.written.result _ _
    (λ fault is. put_memory c.args.history.now c.args.session.now fault is) c.written.ensures.fault

pub returns-in-Err-clause-fault : goal.returns-in-Err-clause-fault
returns-in-Err-clause-fault c =
    let form = c.in_ok-form.form in
    let read = c.in_ok-form.ensures.ok in
    let there = at_place form.generations form.present read.0.present in
    put_either c.args.history.now c.args.session.now form there.0 c.in-Err.fault
    (record { is = read.0; spelled = read.1; there = there.1 })
    (c.in-Err.ensures.fault there.0 there.1)
