use Rattle.std.proofs.Common.{◌∙◌, ℕ, List, Contains, subst, arith}
use Rattle.std.proofs.lemmas.List.{take_all}
use Rattle.rc_model.specs.Names.{Holds}
use Rattle.rc_render.proofs.JournalLemmas.{one_more_member}
use Rattle.rc_render.proofs.journal.set_of.Goals as goal

pub loop-id-preserved : goal.loop-id-preserved
loop-id-preserved c = (
  c.insert.ensures.bound ∙ c.loop-id.invariant.0,
  one_more_member c.loop-id.set c.insert.new.self c.args.ids.now c.loop-id.id-index
      c.loop-id-test.true c.loop-id.invariant.1 c.insert.ensures.members,
)

pub loop-id-init : goal.loop-id-init
loop-id-init c = (
  c.in_ok-set.ensures.bound,
  λ s. (
    λ has. absurd (c.in_ok-set.ensures.members s has),
    λ (k, within, is). absurd (omega (arith, within)),
  ),
)

pub insert-requires : goal.insert-requires
insert-requires c =
    omega (arith, c.loop-id.invariant.0, c.requires.ids c.loop-id.id-index 0 c.loop-id-test.true)

pub returns-clause-members : goal.returns-clause-members
returns-clause-members c =
    subst (λ (ids : List ℕ). Holds c.loop-id.set (Contains ids))
    (take_all c.loop-id.id-index c.args.ids.now c.loop-id-test.false) c.loop-id.invariant.1
