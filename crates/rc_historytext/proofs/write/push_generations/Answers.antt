use Rattle.std.proofs.Common.{◌∙◌, ◌+◌, ◌∷◌, [], ◌++◌, take, ap, sym, arith}
use Rattle.std.proofs.lemmas.List.{take_more}
use Rattle.rc_historytext.specs.Text.{GenerationText}
use Rattle.rc_historytext.proofs.Writing.{generations_written}
use Rattle.rc_historytext.proofs.write.push_generations.Goals as goal

pub loop-generation-preserved : goal.loop-generation-preserved
loop-generation-preserved c =
    let at = c.loop-generation.generation-index in
    let all = c.args.generations.now in
    generations_written c.args.out.now.items c.loop-generation.out.items
    c.push_generation.new.out.items (take at all) (take (at + 1) all) c.generation-item.result
    c.loop-generation.invariant c.in_ok-push_generation.ensures
    (take_more all at c.generation-item.result (omega arith)
    ∙ ap (λ (g : GenerationText). take at all ++ g ∷ []) (sym c.generation-item.is))
