use Rattle.rc_cli.specs.Storing.{store_of}
use Rattle.rc_launch.specs.Back.{UndoesTo}
use Rattle.rc_launch.specs.HeldHistory.{Leads}
use Rattle.rc_launch.specs.Loading.{NamesFile}
use Rattle.rc_launch.proofs.going_back.undo_times.Given as goal

-- so many undos went well
abbrev pub invariant-loop-done : goal.invariant-loop-done
invariant-loop-done g l = NamesFile l.execution.opened.now.loaded
    → Leads (store_of l.fn.devices.outputs.keeper) (store_of l.devices.outputs.keeper)
    (UndoesTo l.done)
