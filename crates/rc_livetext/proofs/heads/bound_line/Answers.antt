use Rattle.std.proofs.lemmas.Result.{err_from_is_err_and}
use Rattle.rc_livetext.specs.Text.{OfBound}
use Rattle.rc_livetext.proofs.Missing.{missing_one}
use Rattle.rc_livetext.proofs.heads.bound_line.Goals as goal

pub returns-in_err-line-clause-fault : goal.returns-in_err-line-clause-fault
returns-in_err-line-clause-fault c =
    let p = err_from_is_err_and c.from_residual.result c.from_residual.ensures.1 in
    rw (p.1, p.2)
    (missing_one OfBound (λ value is. is) c.args.bytes.now c.in_err-line.field-0.0
    c.in_err-line.ensures.fault)
