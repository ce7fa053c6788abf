use Rattle.std.proofs.Common.{◌∙◌, List, ℕ, [], get_or, length, sym, ap}
use Rattle.std.proofs.lemmas.Result.{err_from_is_err_and}
use Rattle.std.specs.Fmt.{decimal}
use Rattle.rc_db.specs.Service.{IsScript}
use Rattle.rc_dbtext.specs.Text.{OfUp}
use Rattle.rc_dbtext.proofs.KindLines.{up_kind}
use Rattle.rc_dbtext.proofs.LineReads.{no_line_here, other_line}
use Rattle.rc_dbtext.proofs.syntax.lines.up_line.Goals as goal

pub returns-in_err-words-clause-fault : goal.returns-in_err-words-clause-fault
returns-in_err-words-clause-fault c =
    let p = err_from_is_err_and c.from_residual.result c.from_residual.ensures.1 in
    rw (p.1, p.2)
    (no_line_here IsScript OfUp up_kind c.args.bytes.now c.in_err-words.field-0.0
    c.in_err-words.ensures.fault)

pub returns-in_default-clause-fault : goal.returns-in_default-clause-fault
returns-in_default-clause-fault c =
    let none = c.in_default.ensures in
    other_line IsScript OfUp up_kind c.args.bytes.now c.in_ok-words.rest.now _
    c.in_ok-words.ensures.ok (λ value tail is same behind. none (decimal (length value)) same)

pub returns-in-None-clause-fault : goal.returns-in-None-clause-fault
returns-in-None-clause-fault c =
    let none = c.in-None.ensures in
    let long = c.in-Some.ensures in
    other_line IsScript OfUp up_kind c.args.bytes.now c.in_ok-words.rest.now _
    c.in_ok-words.ensures.ok
    (λ value tail is same behind. none value tail is
    (ap (λ (l : List (List ℕ)). get_or l 1 []) (sym long ∙ same)) behind)
