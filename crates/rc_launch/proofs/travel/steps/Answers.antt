use Rattle.std.proofs.Common.{◌≡◌, Bool, true, false, List, Some, suc, subst, sym, ℕ}
use Rattle.rc_historytext.specs.Travelling.{GoesOn}
use Rattle.rc_launch.specs.HeldHistory.{history_held}
use Rattle.rc_launch.specs.declared.live_store.LiveStore.{LiveStore}
use Rattle.rc_launch.proofs.HaltLemmas.{comes_on, halted_code, step_stays, steps_to}
use Rattle.rc_launch.proofs.travel.steps.Goals as goal

pub returns-in-Ok-false-clause-done : goal.returns-in-Ok-false-clause-done
returns-in-Ok-false-clause-done g c done named was held =
    let on = c.args.way.is_on in
    let here = c.loop.invariant named was held in
    let place = here.1 in
    let next = c.in-Ok.ensures.ok named place.0 place.1 in (
      next.0,
      next.1,
      (
        here.0,
        place.0,
        place.2.0,
        steps_to _ on place.0 next.0 next.2,
        subst (λ (history : List ℕ). GoesOn on history false) (c.history_in.ensures next.0 next.1)
            (subst (λ (goes : Bool). GoesOn on c.history_in.result.now goes)
            c.in-Ok-false.field-0-test c.in-Ok-false.ensures),
      ),
    )

pub returns-in-Ok-false-2-clause-done : goal.returns-in-Ok-false-2-clause-done
returns-in-Ok-false-2-clause-done g c done named was held =
    let on = c.args.way.is_on in
    let here = c.loop.invariant named was held in
    let place = here.1 in
    let next = c.in-Ok.ensures.ok named place.0 place.1 in (
      next.0,
      subst (λ (store : LiveStore). history_held store ≡ Some next.0) (sym c.say_done.ensures.same)
          next.1,
      (
        here.0,
        place.0,
        place.2.0,
        steps_to _ on place.0 next.0 next.2,
        subst (λ (history : List ℕ). GoesOn on history false) (c.history_in.ensures next.0 next.1)
            (subst (λ (goes : Bool). GoesOn on c.history_in.result.now goes)
            c.in-Ok-false.field-0-test c.in-Ok-false.ensures),
      ),
    )

pub loop-preserved : goal.loop-preserved
loop-preserved g c named was held =
    let on = c.args.way.is_on in
    let here = c.loop.invariant named was held in
    let place = here.1 in
    let next = c.in-Ok.ensures.ok named place.0 place.1 in (
      suc here.0,
      (
        next.0,
        next.1,
        comes_on _ _ here.0 on was place.0 next.0 place.2 next.2
            (subst (λ (history : List ℕ). GoesOn on history true) (c.history_in.ensures next.0
            next.1)
            (subst (λ (goes : Bool). GoesOn on c.history_in.result.now goes)
            c.in-Ok-true.field-0-test c.in-Ok-true.ensures)),
      ),
    )

pub returns-then-has_run-clause-halted : goal.returns-then-has_run-clause-halted
returns-then-has_run-clause-halted g c halted named was held =
    let on = c.args.way.is_on in
    let here = c.loop.invariant named was held in
    let place = here.1 in
    let next = c.in-Err.ensures.halted (halted_code _ _ c.hindered.ensures halted) named place.0
    place.1 in (
      next.0,
      next.1,
      (here.0, place.0, place.2.0, step_stays _ on place.0 next.0 next.2),
    )

pub returns-else-has_run-clause-halted : goal.returns-else-has_run-clause-halted
returns-else-has_run-clause-halted g c halted named was held =
    let on = c.args.way.is_on in
    let here = c.loop.invariant named was held in
    let place = here.1 in
    let next = c.in-Err.ensures.halted halted named place.0 place.1 in (
      next.0,
      next.1,
      (here.0, place.0, place.2.0, step_stays _ on place.0 next.0 next.2),
    )
