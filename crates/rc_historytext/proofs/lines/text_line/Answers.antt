use Rattle.std.proofs.Common.{◌≡◌, ◌∙◌, ◌∷◌, ◌++◌, ℕ, List, [], get_or, length, ap, sym, arith}
use Rattle.std.proofs.Common.{append_assoc}
use Rattle.std.proofs.lemmas.Fmt.{decimal_injective}
use Rattle.std.specs.Fmt.{decimal}
use Rattle.rc_dbtext.specs.Words.{line_of_words}
use Rattle.rc_historytext.proofs.LineWords.{text_counted}
use Rattle.rc_historytext.proofs.Missing.{block_words}
use Rattle.rc_historytext.proofs.lines.text_line.Goals as goal

pub returns-in_default : goal.returns-in_default
returns-in_default c = λ text tail short same.
    c.in_default.ensures (c.args.word.now ∷ decimal (length text) ∷ []) (text ++ tail)
    (text_counted c.args.word.now (length text) c.utf8.word (omega arith))
    (same ∙ append_assoc (line_of_words (c.args.word.now ∷ decimal (length text) ∷ [])) text tail)

pub returns-in_default-argument : goal.returns-in_default-argument
returns-in_default-argument c = λ text tail short same.
    c.in_default-argument.ensures (decimal (length text))
    (block_words c.args.word.now c.args.bytes.now c.in-Some.rest.now text tail c.in-Some.words
    c.requires short c.in-Some.ensures same).0

pub returns-in_default-number_of : goal.returns-in_default-number_of
returns-in_default-number_of c = λ text tail short same.
    let both = block_words c.args.word.now c.args.bytes.now c.in-Some.rest.now text tail
    c.in-Some.words c.requires short c.in-Some.ensures same in
    let long : c.in-Some-argument.long.now ≡ decimal (length text) =
    ap (λ (ws : List (List ℕ)). get_or ws 1 []) (sym c.in-Some-argument.ensures ∙ both.0) in
    c.in_default-number_of.ensures (length text) (omega arith) long

pub returns-in_default-cut : goal.returns-in_default-cut
returns-in_default-cut c = λ text tail short same.
    let both = block_words c.args.word.now c.args.bytes.now c.in-Some.rest.now text tail
    c.in-Some.words c.requires short c.in-Some.ensures same in
    let long : decimal c.in-Some-number_of.long ≡ decimal (length text) =
    sym c.in-Some-number_of.ensures.1
    ∙ ap (λ (ws : List (List ℕ)). get_or ws 1 []) (sym c.in-Some-argument.ensures ∙ both.0) in
    let is : c.in-Some-number_of.long ≡ length text =
    decimal_injective c.in-Some-number_of.long (length text)
    (omega (arith, c.in-Some-number_of.ensures.0)) (omega arith) long in
    c.in_default-cut.ensures text tail (sym is) both.1
