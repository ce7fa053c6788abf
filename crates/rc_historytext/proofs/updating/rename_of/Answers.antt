use Rattle.std.proofs.lemmas.Result.{err_from_is_err_and}
use Rattle.rc_historytext.proofs.updating.rename_of.Goals as goal

pub returns-in_err-name_of-clause-fault : goal.returns-in_err-name_of-clause-fault
returns-in_err-name_of-clause-fault c =
    let p = err_from_is_err_and c.from_residual.result c.from_residual.ensures.1 in
    rw (p.1, p.2)
    (c.in_err-name_of.ensures.fault.0, λ is. c.in_err-name_of.ensures.fault.1 is.old)

pub returns-in_err-name_of-2-clause-fault : goal.returns-in_err-name_of-2-clause-fault
returns-in_err-name_of-2-clause-fault c =
    let p = err_from_is_err_and c.from_residual-in_err-name_of-2.result
    c.from_residual-in_err-name_of-2.ensures.1 in
    rw (p.1, p.2)
    (c.in_err-name_of-2.ensures.fault.0, λ is. c.in_err-name_of-2.ensures.fault.1 is.new)
