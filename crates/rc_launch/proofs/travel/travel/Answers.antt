use Rattle.rc_cli.specs.Storing.{store_of}
use Rattle.rc_launch.proofs.HaltLemmas.{halts_here, refused_here}
use Rattle.rc_launch.proofs.travel.travel.Goals as goal

pub returns-in-Ok-Some-clause-halted : goal.returns-in-Ok-Some-clause-halted
returns-in-Ok-Some-clause-halted g c halted named =
    halts_here (store_of c.args.devices.now.outputs.keeper)
    (store_of c.tell_unjoined.new.devices.outputs.keeper) c.args.way.is_on
    c.tell_unjoined.ensures.same

pub returns-in-Ok-Some-clause-refused : goal.returns-in-Ok-Some-clause-refused
returns-in-Ok-Some-clause-refused g c one named =
    refused_here (store_of c.args.devices.now.outputs.keeper)
    (store_of c.tell_unjoined.new.devices.outputs.keeper) c.args.way.is_on
    c.tell_unjoined.ensures.same

pub returns-in-Ok-Some-uncontrolled_ahead-clause-halted :
    goal.returns-in-Ok-Some-uncontrolled_ahead-clause-halted
returns-in-Ok-Some-uncontrolled_ahead-clause-halted g c halted named =
    halts_here (store_of c.args.devices.now.outputs.keeper)
    (store_of c.tell_refused.new.devices.outputs.keeper) c.args.way.is_on
    c.tell_refused.ensures.same

pub returns-in-Ok-Some-uncontrolled_ahead-clause-refused :
    goal.returns-in-Ok-Some-uncontrolled_ahead-clause-refused
returns-in-Ok-Some-uncontrolled_ahead-clause-refused g c one named =
    refused_here (store_of c.args.devices.now.outputs.keeper)
    (store_of c.tell_refused.new.devices.outputs.keeper) c.args.way.is_on
    c.tell_refused.ensures.same
