use Rattle.rc_launch.specs.Held.{files_held}
use Rattle.rc_launch.proofs.RecoveryLemmas.{came_by}
use Rattle.rc_launch.proofs.recovery.recovered.Goals as goal

pub returns-in-Ok : goal.returns-in-Ok
returns-in-Ok c =
    came_by c.args.loaded.now c.in-Some.base c.bytes.result.now (files_held c.args.held.now)
    (files_held c.recovered_by.new.held) c.in-Ok.came c.in-Some.is c.bytes.ensures
    c.in-Ok.ensures.came
