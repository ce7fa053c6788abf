use Rattle.std.proofs.Common.{◌≡◌, Some, false, subst, sym}
use Rattle.rc_cli.specs.Storing.{store_of}
use Rattle.rc_launch.specs.HeldHistory.{history_held}
use Rattle.rc_launch.specs.declared.live_store.LiveStore.{LiveStore}
use Rattle.rc_launch.proofs.BackLemmas.{comes_here, counted}
use Rattle.rc_launch.proofs.HaltLemmas.{refused_here}
use Rattle.rc_launch.proofs.going_back.go_back_on.Goals as goal

pub returns-in-Ok-Some-clause-done : goal.returns-in-Ok-Some-clause-done
returns-in-Ok-Some-clause-done g c done named was held =
    let steps = c.in-Ok-Some.steps in (
      was,
      subst (λ (store : LiveStore). history_held store ≡ Some was) (sym c.say_done.ensures.same)
          held,
      comes_here c.args.aim.state was steps
          (counted _ c.steps_back.result c.in-Ok-Some.field-0 c.args.aim.state
          c.history_in.result.now was steps c.in-Ok-Some.is c.steps_back.ensures
          c.in-Ok-Some.field-0-is (c.history_in.ensures was held))
          c.if-steps-eq0.true,
    )

pub returns-in-Ok-Some-2-clause-done : goal.returns-in-Ok-Some-2-clause-done
returns-in-Ok-Some-2-clause-done g c done named was held =
    let next = c.arrive.ensures.done done named was held in
    let steps = c.in-Ok-Some.steps in (
      next.0,
      next.1,
      (
        steps,
        counted _ c.steps_back.result c.in-Ok-Some.field-0 c.args.aim.state
            c.history_in.result.now was steps c.in-Ok-Some.is c.steps_back.ensures
            c.in-Ok-Some.field-0-is (c.history_in.ensures was held),
        next.2,
      ),
    )

pub returns-in-Ok-Some-2-clause-stopped : goal.returns-in-Ok-Some-2-clause-stopped
returns-in-Ok-Some-2-clause-stopped g c two named was held =
    let next = c.arrive.ensures.stopped two named was held in
    let steps = c.in-Ok-Some.steps in (
      next.0,
      next.1,
      (
        steps,
        counted _ c.steps_back.result c.in-Ok-Some.field-0 c.args.aim.state
            c.history_in.result.now was steps c.in-Ok-Some.is c.steps_back.ensures
            c.in-Ok-Some.field-0-is (c.history_in.ensures was held),
        next.2,
      ),
    )

pub returns-in-Ok-None-clause-refused : goal.returns-in-Ok-None-clause-refused
returns-in-Ok-None-clause-refused g c one named =
    refused_here (store_of c.args.devices.now.outputs.keeper)
    (store_of c.tell_unkept.new.devices.outputs.keeper) false c.tell_unkept.ensures.same

pub returns-in-Err-clause-refused : goal.returns-in-Err-clause-refused
returns-in-Err-clause-refused g c one named =
    refused_here (store_of c.args.devices.now.outputs.keeper)
    (store_of c.tell_untold.new.devices.outputs.keeper) false c.tell_untold.ensures.same
