use Rattle.std.proofs.Common.{◌∙◌, ◌∷◌, [], ◌++◌, ℕ, List, ap, refl}
use Rattle.std.specs.Prelude.{codes}
use Rattle.rc_dbtext.specs.Words.{line_of_words}
use Rattle.rc_historytext.specs.Text.{GenerationText, OfMarks, mark_word, spell}
use Rattle.rc_historytext.proofs.Writing.{line_written}
use Rattle.rc_historytext.proofs.write.push_marks.Goals as goal

pub returns : goal.returns
returns c =
    line_written c.args.out.now.items c.push_words.new.out.items
    (OfMarks c.generation.inside.first_passed c.generation.inside.last_passed) refl
    (c.in_ok-push_words.ensures
    ∙ ap (λ (a : List ℕ). c.args.out.now.items
    ++ line_of_words (codes "generation" ∷ a ∷ c.mark.result.now ∷ [])) c.mark-first.ensures
    ∙ ap (λ (b : List ℕ). c.args.out.now.items ++ line_of_words
    (codes "generation" ∷ mark_word c.generation.inside.first_passed ∷ b ∷ [])) c.mark.ensures)
    ∙ ap (λ (g : GenerationText).
    c.args.out.now.items ++ spell (OfMarks g.first_passed g.last_passed)) c.generation.view_is
