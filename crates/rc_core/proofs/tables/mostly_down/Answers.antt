use Rattle.std.proofs.Common.{◌≡◌, ℕ, replicate, subst}
use Rattle.rc_model.specs.declared.Standing.TheVariants.{Down}
use Rattle.rc_core.proofs.Passing.{none_stand, next_stands, all_stand}
use Rattle.rc_core.proofs.tables.mostly_down.Goals as goal

pub loop-service-init : goal.loop-service-init
loop-service-init c =
    let down = c.in_ok-standings.ensures.items_if_clones_equal (λ y e. e) in
    none_stand c.args.up.now c.in_ok-standings.standings.items
    (subst (λ (n : ℕ). c.in_ok-standings.standings.items ≡ replicate n Down)
    c.bound.ensures.bound down)

pub loop-service-preserved : goal.loop-service-preserved
loop-service-preserved c =
    next_stands c.args.up.now c.loop-service.at c.in-Some.service c.loop-service.standings.items
    c.loop-service.invariant c.in-Some.ensures.some

pub returns-clause-standing : goal.returns-clause-standing
returns-clause-standing c =
    all_stand c.args.up.now c.loop-service.at c.loop-service.standings.items
    c.loop-service.invariant c.in_default.ensures.none
