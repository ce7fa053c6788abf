use Rattle.std.proofs.Common.{false}
use Rattle.rc_cli.specs.Storing.{store_of}
use Rattle.rc_launch.proofs.BackLemmas.{counted, stands_on}
use Rattle.rc_launch.proofs.HaltLemmas.{refused_here}
use Rattle.rc_launch.proofs.going_back.arrive.Goals as goal

pub returns-in-Ok-Some-clause-refused : goal.returns-in-Ok-Some-clause-refused
returns-in-Ok-Some-clause-refused g c one named =
    refused_here (store_of c.args.devices.now.outputs.keeper)
    (store_of c.tell_refused.new.devices.outputs.keeper) false c.tell_refused.ensures.same

pub returns-in-Ok-Some-steps_back-clause-done : goal.returns-in-Ok-Some-steps_back-clause-done
returns-in-Ok-Some-steps_back-clause-done g c done named was held =
    let next = c.undo_times.ensures.done c.in-0.is named was held in
    let left = c.in-Ok-Some-steps_back.left in (
      next.0,
      next.1,
      (
        next.2,
        stands_on c.args.aim.state next.0 left
            (counted _ c.steps_back.result c.in-Ok-Some-steps_back.field-0 c.args.aim.state
            c.history_in-2.result.now next.0 left c.in-Ok-Some-steps_back.is
            c.steps_back.ensures c.in-Ok-Some-steps_back.field-0-is
            (c.history_in-2.ensures next.0 next.1))
            c.if-left-eq0.true,
      ),
    )
