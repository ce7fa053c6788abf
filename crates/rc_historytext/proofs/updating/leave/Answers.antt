use Rattle.std.proofs.Common.{ℕ, List, inl, inr, subst, sym}
use Rattle.std.proofs.lemmas.Result.{IfOk-weaker, err_from_is_err_and}
use Rattle.rc_historytext.specs.States.{Cuts}
use Rattle.rc_historytext.specs.Updating.{IsLeft, LeavesWith}
use Rattle.rc_historytext.specs.Present.{IsPresent}
use Rattle.rc_historytext.proofs.updating.leave.Goals as goal

of_present : (bytes database session cut kept : List ℕ) → IsPresent bytes database session
    → Cuts session cut → LeavesWith bytes cut kept → IsLeft bytes kept
of_present bytes database session cut kept (t, g, at, is, stands) cuts leaves =
    (t, g, cut, at, subst (λ (s : List ℕ). Cuts s cut) (sym stands) cuts, leaves)

pub returns-clause-ok : goal.returns-clause-ok
returns-clause-ok c =
    IfOk-weaker c.leave_with-left.result _ _
    (λ text leaves. of_present c.args.history.now c.in_ok-present.present.database.now
    c.in_ok-present.present.session.now c.deref.result.now text.items c.in_ok-present.ensures.ok
    (subst (Cuts c.in_ok-present.present.session.now) (sym c.deref.ensures.value)
    c.in_ok-cut.ensures.ok) leaves)
    c.leave_with-left.ensures.ok

pub returns-in_err-present-clause-fault : goal.returns-in_err-present-clause-fault
returns-in_err-present-clause-fault c =
    let p = err_from_is_err_and c.from_residual.result c.from_residual.ensures.1 in
    rw (p.1, p.2)
    (inl c.in_err-present.ensures.fault)

pub returns-in_err-cut-clause-fault : goal.returns-in_err-cut-clause-fault
returns-in_err-cut-clause-fault c =
    let p =
    err_from_is_err_and c.from_residual-in_err-cut.result c.from_residual-in_err-cut.ensures.1 in
    rw (p.1, p.2)
    (inr (
      c.in_ok-present.present.session.now,
      (c.in_ok-present.present.database.now, c.in_ok-present.ensures.ok),
      c.in_err-cut.ensures.fault,
    ))
