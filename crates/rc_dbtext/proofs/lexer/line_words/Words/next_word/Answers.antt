use denote.Ref.{Bor}
use Rattle.std.proofs.Common.{◌∙◌, ℕ, List, Option, sym, ap}
use Rattle.std.specs.Option.{option_map}
use Rattle.rc_dbtext.specs.Words.{words_left}
use Rattle.rc_dbtext.proofs.Taking.{first_taken, last_taken}
use Rattle.rc_dbtext.proofs.lexer.line_words.Words.next_word.Goals as goal

pub returns-in-Some : goal.returns-in-Some
returns-in-Some c =
    let cut = c.in-Some.ensures.some in
    sym c.self.view_is
    ∙ ap (λ (r : Option (Bor (List ℕ))). words_left (option_map (λ text. text.now) r))
    c.in_ok-line.was
    ∙ first_taken c.in_ok-line.line.now c.in-Some.word.now c.in-Some.others.now cut.0 cut.1

pub returns-in-None : goal.returns-in-None
returns-in-None c =
    sym c.self.view_is
    ∙ ap (λ (r : Option (Bor (List ℕ))). words_left (option_map (λ text. text.now) r))
    c.in_ok-line.was
    ∙ last_taken c.in_ok-line.line.now c.in-None.ensures.none
