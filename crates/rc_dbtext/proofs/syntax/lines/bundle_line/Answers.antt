use Rattle.std.proofs.lemmas.Result.{err_from_is_err_and}
use Rattle.rc_dbtext.specs.Text.{OfBundle, IsBundleText}
use Rattle.rc_dbtext.proofs.KindLines.{bundle_kind}
use Rattle.rc_dbtext.proofs.LineReads.{no_line_here, other_line}
use Rattle.rc_dbtext.proofs.syntax.lines.bundle_line.Goals as goal

pub returns-in_err-words-clause-fault : goal.returns-in_err-words-clause-fault
returns-in_err-words-clause-fault c =
    let p = err_from_is_err_and c.from_residual.result c.from_residual.ensures.1 in
    rw (p.1, p.2)
    (no_line_here IsBundleText OfBundle bundle_kind c.args.bytes.now c.in_err-words.field-0.0
    c.in_err-words.ensures.fault)

pub returns-in-Ok-None-clause-fault : goal.returns-in-Ok-None-clause-fault
returns-in-Ok-None-clause-fault c =
    let none = rw c.in-Ok-None.field-0-is at c.in-Ok-None.ensures in
    other_line IsBundleText OfBundle bundle_kind c.args.bytes.now c.in_ok-words.rest.now _
    c.in_ok-words.ensures.ok (λ value tail is same behind. none value is same)
