use Rattle.std.proofs.Common.{◌≡◌, ◌∙◌, ◌++◌, ◌∷◌, [], ◌==◌, List, ℕ, ap, sym, append_assoc}
use Rattle.std.proofs.lemmas.List.Splits.{join_with_byte-slice_split}
use Rattle.std.specs.List.{slice_split}
use Rattle.rc_dbtext.specs.Words.{line_of_words}
use Rattle.rc_dbtext.proofs.TextLines.{front_text}
use Rattle.rc_dbtext.proofs.LineWords.{split_plain, no_newline}
use Rattle.rc_dbtext.proofs.lexer.words.words_of.Goals as goal

pub returns-in_default : goal.returns-in_default
returns-in_default c = λ words rest each.
    no_newline c.args.bytes.now c.in_default.ensures.none words rest

pub returns-in-Err : goal.returns-in-Err
returns-in-Err c = λ words rest each same.
    let cut = c.in-Some.ensures.line in
    c.in-Err.ensures.cases.0
    (front_text c.in-Some.line.now c.in-Some.rest.now rest words each cut.1 (sym cut.0 ∙ same))

pub returns-in-Ok : goal.returns-in-Ok
returns-in-Ok c =
    let cut = c.in-Some.ensures.line in
    let line : List ℕ = c.in-Some.line.now in
    let pieces : List (List ℕ) = slice_split (λ byte. byte == 32) line in
    let whole : c.args.bytes.now ≡ line_of_words pieces ++ c.in-Some.rest.now =
    cut.0 ∙ sym (append_assoc line (10 ∷ []) c.in-Some.rest.now)
    ∙ ap (λ (l : List ℕ). l ++ 10 ∷ [] ++ c.in-Some.rest.now)
    (sym (join_with_byte-slice_split 32 line)) in
    let words = c.of.ensures ∙ ap (slice_split (λ byte. byte == 32)) c.in-Ok.ensures.cases.0 in
    rw words (split_plain line cut.1, whole)
