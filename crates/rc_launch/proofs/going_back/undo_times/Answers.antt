use Rattle.std.proofs.Common.{◌+◌, arith, suc}
use Rattle.rc_cli.specs.Storing.{store_of}
use Rattle.rc_launch.proofs.BackLemmas.{undoes_by, undoes_on}
use Rattle.rc_launch.proofs.going_back.undo_times.Goals as goal

pub loop-done-preserved : goal.loop-done-preserved
loop-done-preserved g c named =
    let old = store_of c.args.devices.now.outputs.keeper in
    let new = store_of c.undo_once.new.devices.outputs.keeper in
    undoes_by (suc c.loop-done.done) (c.loop-done.done + 1) old new (omega arith)
    (undoes_on c.loop-done.done old (store_of c.loop-done.devices.outputs.keeper) new
    (c.loop-done.invariant named) (c.undo_once.ensures.done c.in-0.is named))
