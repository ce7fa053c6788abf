use Rattle.std.proofs.Common.{All}
use Rattle.std.proofs.lemmas.Result.{err_from_is_err_and}
use Rattle.rc_model.specs.Names.{IsName}
use Rattle.rc_dbtext.specs.Text.{OfNeeds}
use Rattle.rc_dbtext.proofs.KindLines.{needs_kind}
use Rattle.rc_dbtext.proofs.LineReads.{no_line_here, other_line}
use Rattle.rc_dbtext.proofs.syntax.lines.needs_line.Goals as goal

pub returns-in_err-words-clause-fault : goal.returns-in_err-words-clause-fault
returns-in_err-words-clause-fault c =
    let p = err_from_is_err_and c.from_residual.result c.from_residual.ensures.1 in
    rw (p.1, p.2)
    (no_line_here (All IsName) OfNeeds needs_kind c.args.bytes.now c.in_err-words.field-0.0
    c.in_err-words.ensures.fault)

pub returns-in-Ok-None-clause-fault : goal.returns-in-Ok-None-clause-fault
returns-in-Ok-None-clause-fault c =
    let none = rw c.in-Ok-None.field-0-is at c.in-Ok-None.ensures in
    other_line (All IsName) OfNeeds needs_kind c.args.bytes.now c.in_ok-words.rest.now _
    c.in_ok-words.ensures.ok (λ value tail is same behind. none value is same)
