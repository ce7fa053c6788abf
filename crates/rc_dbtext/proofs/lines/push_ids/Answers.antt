use Rattle.std.proofs.Common.{◌∙◌, ◌∷◌, ◌++◌, ℕ, List, map, take, ap}
use Rattle.rc_dbtext.specs.Lines.{words_after_spaces}
use Rattle.rc_dbtext.specs.Spelling.{name_at}
use Rattle.rc_dbtext.proofs.LineLemmas.{spaced_more}
use Rattle.rc_dbtext.proofs.lines.push_ids.Goals as goal

pub loop-id-preserved : goal.loop-id-preserved
loop-id-preserved c =
    let so_far : List ℕ = c.args.out.now.items ++ words_after_spaces
    (map (name_at c.args.names.now) (take c.loop-id.id-index c.args.ids.now)) in
    c.in-Ok.ensures.written ∙ ap (λ (l : List ℕ). l ++ 32 ∷ c.word_at.result.now)
    c.loop-id.invariant ∙ ap (λ (w : List ℕ). so_far ++ 32 ∷ w) c.word_at.ensures
    ∙ spaced_more (name_at c.args.names.now) c.args.out.now.items c.args.ids.now c.loop-id.id-index
    0 c.loop-id-test.true
