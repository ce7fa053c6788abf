use Rattle.std.proofs.Common.{◌≡◌, ◌∙◌, ◌↔◌, IsTrue, true, false, refl, subst, sym, arith}
use Rattle.rc_model.specs.Run.{CanMove}
use Rattle.rc_core.specs.Settled.{RunSoFar}
use Rattle.rc_core.proofs.Places.{move_is_left, planned_within}
use Rattle.rc_core.proofs.Readying.{ready_moves}
use Rattle.rc_core.proofs.run.Run.can_move.Goals as goal
use Rattle.rc_core.proofs.run.Run.can_move.Goals.{then-service-len-via-then-service-len}
use Rattle.rc_core.proofs.run.Run.can_move.Goals.{then-service-len-via-else-service-len+then-not-contains}

pub returns-then-service-len : goal.returns-then-service-len
returns-then-service-len c =
    subst (λ (r : RunSoFar). IsTrue false ↔ CanMove r.course r.events c.args.service)
    c.self.view_is (
      λ yes. absurd (let bad : false ≡ true = yes in cc),
      λ move.
          let left = move_is_left _ _ c.args.service move in
          elim c.then-service-len.branch [
            | then-service-len-via-then-service-len w ↦ absurd
                (omega (
                  arith,
                  planned_within _ c.args.service c.self.invariant.0.course left.0,
                  c.len.ensures.count,
                  w.if-service-len.true,
                ))
            | then-service-len-via-else-service-len+then-not-contains w ↦ (
                let has =
                w.contains.ensures.1
                ((c.self.invariant.0.tables.left_ones c.args.service).1 left) in
                let bad : false ≡ true = sym w.if-not-contains.true ∙ has in cc
                )
          ],
    )

pub returns : goal.returns
returns c =
    let moves =
    ready_moves _ _ _ _ c.self.invariant.0.course c.self.invariant.0.run c.self.invariant.3
    c.args.service in
    let ones = c.self.invariant.3.ones c.args.service in
    let left =
    (c.self.invariant.0.tables.left_ones c.args.service).0 (c.if-not-contains.ensures.0 refl) in
    subst (λ (r : RunSoFar). IsTrue c.waits_for_none.result
    ↔ CanMove r.course r.events c.args.service) c.self.view_is (
      λ yes. moves.0 (ones.1 (left, c.waits_for_none.ensures.0 yes)),
      λ move. c.waits_for_none.ensures.1 (ones.0 (moves.1 move)).1,
    )
