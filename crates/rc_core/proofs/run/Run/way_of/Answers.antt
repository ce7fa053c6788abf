use Rattle.std.proofs.Common.{◌≡◌, true, false, refl, subst, arith}
use Rattle.rc_model.specs.Run.{CanSink, CanRise}
use Rattle.rc_core.specs.Settled.{RunSoFar}
use Rattle.rc_core.proofs.Places.{move_is_left, planned_within}
use Rattle.rc_core.proofs.MoveLemmas.{sinks_from, rises_from}
use Rattle.rc_core.proofs.run.Run.way_of.Goals as goal

pub contains-requires : goal.contains-requires
contains-requires c =
    let move = rw (← c.self.view_is) at c.requires in
    omega (
      arith,
      planned_within _ c.args.service c.self.invariant.0.course
          (move_is_left _ _ c.args.service move).0,
      c.self.invariant.0.course.lower_bound,
    )

pub returns-then-contains : goal.returns-then-contains
returns-then-contains c =
    let move = rw (← c.self.view_is) at c.requires in
    subst (λ (r : RunSoFar). CanSink r.course r.events c.args.service) c.self.view_is
    (sinks_from _ _ c.args.service c.self.invariant.0.course move
    (c.if-contains.ensures.0 refl))

pub returns-else-contains : goal.returns-else-contains
returns-else-contains c =
    let move = rw (← c.self.view_is) at c.requires in
    subst (λ (r : RunSoFar). CanRise r.course r.events c.args.service) c.self.view_is
    (rises_from _ _ c.args.service move
    (λ low. let bad : false ≡ true = c.if-contains.ensures.1 low in cc))
