use Rattle.std.proofs.Common.{inl, inr}
use Rattle.rc_model.specs.Session.{Nothing}
use Rattle.rc_model.specs.Names.{Has}
use Rattle.rc_model.specs.Plan.{Target}
use Rattle.rc_model.specs.declared.Mode.TheVariants.{Up}
use Rattle.std.proofs.Common.{false}
use Rattle.rc_select.proofs.TargetLemmas.{target_closed, same_closed}
use Rattle.rc_select.proofs.plans.plan_up.Goals as goal

pub between-requires-clause-to_closed : goal.between-requires-clause-to_closed
between-requires-clause-to_closed c =
    same_closed c.args.graph.now
    (Target c.args.graph.now (Has c.args.up.now) Nothing Up false (Has c.args.wanted.now))
    (Has c.join.new.self)
    (λ s target. elim target [
      | inl up ↦ (c.join.ensures.members s).1 (inr up)
      | inr wanted ↦
          (c.join.ensures.members s).1 (inl ((c.in_ok-target.ensures.members s).1 wanted))
    ])
    (λ s has. elim ((c.join.ensures.members s).0 has) [
      | inl closure ↦ inr ((c.in_ok-target.ensures.members s).0 closure)
      | inr up ↦ inl up
    ])
    (target_closed c.args.graph.now (Has c.args.up.now) Nothing (Has c.args.wanted.now) Up false
    c.requires.up_closed)
