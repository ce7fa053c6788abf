use Rattle.std.proofs.Common.{◌∙◌, sym}
use Rattle.std.proofs.lemmas.Bool.{true≢false}
use Rattle.std.proofs.lemmas.Result.{err_from_is_err_and}
use Rattle.rc_dbtext.proofs.NumberLines.{no_first, other_first}
use Rattle.rc_dbtext.proofs.syntax.lines.first_line.Goals as goal

pub returns-in_err-number-clause-fault : goal.returns-in_err-number-clause-fault
returns-in_err-number-clause-fault c =
    let p = err_from_is_err_and c.from_residual.result c.from_residual.ensures.1 in
    rw (p.1, p.2)
    (no_first c.args.bytes.now c.in_err-number.field-0.0 c.in_err-number.ensures.fault)

pub returns-else-is-clause-fault : goal.returns-else-is-clause-fault
returns-else-is-clause-fault c =
    let read = c.in_ok-number.ensures.ok in
    other_first c.args.bytes.now c.in_ok-number.number.now c.in_ok-number.rest.now read.0
    (λ same. true≢false (sym (c.is.ensures.1 same) ∙ c.if-is.false)) read.1
