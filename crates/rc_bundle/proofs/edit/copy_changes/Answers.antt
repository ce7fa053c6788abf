use Rattle.std.proofs.Common.{◌∙◌, ◌++◌, ◌∷◌, [], sym}
use Rattle.std.proofs.lemmas.List.{take_more, take_all}
use Rattle.rc_bundle.proofs.edit.copy_changes.Goals as goal

pub loop-change-preserved : goal.loop-change-preserved
loop-change-preserved c =
    c.in-Ok.ensures
    ∙ (λ i. c.loop-change.invariant i ++ c.change-item.is i ∷ [])
    ∙ sym (take_more c.args.changes.now c.loop-change.change-index c.change-item.result
    c.loop-change-test.true)

pub returns : goal.returns
returns c =
    c.loop-change.invariant ∙ take_all c.loop-change.change-index c.args.changes.now
    c.loop-change-test.false
