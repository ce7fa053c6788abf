use Rattle.std.proofs.Common.{◌∙◌, List, ℕ, [], length, drop, arith, sym, ap}
use Rattle.std.proofs.lemmas.Result.{err_from_is_err_and}
use Rattle.rc_dbtext.specs.Text.{Last}
use Rattle.rc_dbtext.proofs.KindLines.{last_kind}
use Rattle.rc_dbtext.proofs.LineReads.{no_line_here, other_line}
use Rattle.rc_dbtext.proofs.syntax.lines.last_line.Goals as goal

pub returns-in_err-words-clause-fault : goal.returns-in_err-words-clause-fault
returns-in_err-words-clause-fault c =
    let p = err_from_is_err_and c.from_residual.result c.from_residual.ensures.1 in
    rw (p.1, p.2) (no_line_here (λ (u : Unit {0}). Unit {0}) (λ _. Last) last_kind
    c.args.bytes.now c.in_err-words.field-0.0 c.in_err-words.ensures.fault)

pub returns-in_default-clause-fault : goal.returns-in_default-clause-fault
returns-in_default-clause-fault c =
    let none = c.in_default.ensures in
    other_line (λ (u : Unit {0}). Unit {0}) (λ _. Last) last_kind c.args.bytes.now
    c.in_ok-words.rest.now _ c.in_ok-words.ensures.ok (λ value tail is same behind. none [] same)

pub returns-in-Some-next_word-clause-fault : goal.returns-in-Some-next_word-clause-fault
returns-in-Some-next_word-clause-fault c =
    let words = c.in-Some.ensures in
    let more = c.in-Some-next_word.ensures in
    other_line (λ (u : Unit {0}). Unit {0}) (λ _. Last) last_kind c.args.bytes.now
    c.in_ok-words.rest.now _ c.in_ok-words.ensures.ok (λ value tail is same behind.
    omega (arith, ap length (sym more ∙ ap (λ (l : List (List ℕ)). drop 1 l) (sym words ∙ same))))
