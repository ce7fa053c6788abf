use Rattle.std.proofs.Common.{◌∙◌, List, ℕ, [], ◌∷◌, get_or, Some, None, IfSome, refl, sym, ap}
use Rattle.std.proofs.lemmas.Bool.{true≢false}
use Rattle.std.proofs.lemmas.Result.{err_from_is_err_and}
use Rattle.std.specs.Prelude.{codes}
use Rattle.rc_db.specs.Service.{IsScript}
use Rattle.rc_dbtext.specs.Text.{OfDown, length_word}
use Rattle.rc_dbtext.proofs.KindLines.{down_kind, no_down}
use Rattle.rc_dbtext.proofs.LineReads.{read_with_text, no_line_here, other_line}
use Rattle.rc_dbtext.proofs.syntax.lines.down_line.Goals as goal

pub returns-in_err-words-clause-fault : goal.returns-in_err-words-clause-fault
returns-in_err-words-clause-fault c =
    let p = err_from_is_err_and c.from_residual.result c.from_residual.ensures.1 in
    rw (p.1, p.2)
    (no_line_here (λ t. IfSome t IsScript) OfDown down_kind c.args.bytes.now
    c.in_err-words.field-0.0 c.in_err-words.ensures.fault)

pub returns-in_default-clause-fault : goal.returns-in_default-clause-fault
returns-in_default-clause-fault c =
    let none = c.in_default.ensures in
    other_line (λ t. IfSome t IsScript) OfDown down_kind c.args.bytes.now c.in_ok-words.rest.now _
    c.in_ok-words.ensures.ok (λ value tail is same behind. none (length_word value) same)

pub returns-in-None-clause-fault : goal.returns-in-None-clause-fault
returns-in-None-clause-fault c =
    let none = c.in-None.ensures in
    let long = c.in-Some.ensures in
    other_line (λ t. IfSome t IsScript) OfDown down_kind c.args.bytes.now c.in_ok-words.rest.now _
    c.in_ok-words.ensures.ok
    (λ value tail is same behind. no_down c.in-Some.long.now c.in_ok-words.rest.now
    (λ dash. true≢false (sym (c.is.ensures.1 dash) ∙ c.if-is.false))
    none value tail is (ap (λ (l : List (List ℕ)). get_or l 1 []) (sym long ∙ same)) behind)

pub returns-then-is-clause-ok : goal.returns-then-is-clause-ok
returns-then-is-clause-ok c =
    let words = c.in-Some.ensures in
    read_with_text (λ t. IfSome t IsScript) OfDown c.args.bytes.now c.in_ok-words.rest.now
    c.in_ok-words.rest.now _ None c.in_ok-words.ensures.ok tt
    (words ∙ ap (λ (w : List ℕ). codes "down" ∷ w ∷ []) (c.is.ensures.0 c.if-is.true)) refl

pub returns-in-Some-text_after-clause-ok : goal.returns-in-Some-text_after-clause-ok
returns-in-Some-text_after-clause-ok c =
    let words = c.in-Some.ensures in
    let said = c.in-Some-text_after.ensures in
    read_with_text (λ t. IfSome t IsScript) OfDown c.args.bytes.now c.in_ok-words.rest.now
    c.in-Some-text_after.behind.now _ (Some c.in-Some-text_after.text.now)
    c.in_ok-words.ensures.ok said.0
    (words ∙ ap (λ (w : List ℕ). codes "down" ∷ w ∷ []) said.1) said.2
