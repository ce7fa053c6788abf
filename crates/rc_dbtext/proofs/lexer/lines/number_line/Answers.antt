use Rattle.std.proofs.Common.{◌≡◌, ◌∙◌, ◌∷◌, List, ℕ, [], get_or, subst, sym, ap, true}
use Rattle.rc_dbtext.specs.Words.{IsNumber}
use Rattle.rc_dbtext.proofs.NumberWords.{number_words, numbered_text}
use Rattle.rc_dbtext.proofs.lexer.lines.number_line.Goals as goal

pub returns-in_default : goal.returns-in_default
returns-in_default c = λ has.
    c.in_default.ensures (c.args.word.now ∷ has.0 ∷ []) has.1
    (numbered_text c.args.word.now has.0 c.utf8.word has.2) has.4

pub returns-in_default-argument : goal.returns-in_default-argument
returns-in_default-argument c = λ has.
    let found = number_words c.args.word.now c.args.bytes.now c.requires (λ _. Unit {0}) _
    c.in-Some.rest.now c.in-Some.ensures has in
    c.in_default-argument.ensures found.0 found.3

pub returns-else-is_number : goal.returns-else-is_number
returns-else-is_number c = λ has.
    let found = number_words c.args.word.now c.args.bytes.now c.requires (λ _. Unit {0}) _
    c.in-Some.rest.now c.in-Some.ensures has in
    let same : found.0 ≡ c.in-Some-argument.number.now =
    ap (λ (l : List (List ℕ)). get_or l 1 []) (sym found.3 ∙ c.in-Some-argument.ensures) in
    let yes : c.is_number.result ≡ true =
    c.is_number.ensures.1 (subst IsNumber same found.1) in
    cc
