use Rattle.std.proofs.Common.{inl, inr}
use Rattle.std.proofs.lemmas.Result.{IfErr-weaker, err_from_is_err_and}
use Rattle.rc_historytext.proofs.updating.enter_left.Goals as goal

pub returns-then-not-is_short-clause-fault : goal.returns-then-not-is_short-clause-fault
returns-then-not-is_short-clause-fault c = inl tt

pub returns-in_err-renames-clause-fault : goal.returns-in_err-renames-clause-fault
returns-in_err-renames-clause-fault c =
    let p = err_from_is_err_and c.from_residual.result c.from_residual.ensures.1 in
    rw (p.1, p.2)
    (inr c.in_err-renames.ensures.fault)

pub returns-clause-fault : goal.returns-clause-fault
returns-clause-fault c =
    IfErr-weaker c.begun_behind.result _ _ (λ fault refused. inl refused)
    c.begun_behind.ensures.fault
