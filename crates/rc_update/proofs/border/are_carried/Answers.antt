use Rattle.std.proofs.Common.{◌∙◌, sym}
use Rattle.rc_model.proofs.SetLemmas.{same_set}
use Rattle.rc_update.proofs.border.are_carried.Goals as goal

pub returns-clause-no : goal.returns-clause-no
returns-clause-no c holds all =
    c.same-same.ensures.1 (same_set c.in_ok-there.there c.args.to.now
    (c.in_ok-there.ensures.bound ∙ sym c.requires.to)
    (λ s. (
      λ has. (holds s).1 ((c.in_ok-there.ensures.members s).0 has),
      λ has. (c.in_ok-there.ensures.members s).1 ((holds s).0 has),
    )))
