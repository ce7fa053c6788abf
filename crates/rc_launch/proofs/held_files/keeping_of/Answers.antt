use Rattle.rc_launch.proofs.RecoveryLemmas.{keeps_as}
use Rattle.rc_launch.proofs.held_files.keeping_of.Goals as goal

pub returns-in-Ok : goal.returns-in-Ok
returns-in-Ok c =
    keeps_as _ _ c.text.result.now c.log.result.now c.text-2.result.now c.log-2.result.now
    c.logs_step-step.result c.in-Ok.way c.keeping_by.result c.text.ensures c.log.ensures
    c.text-2.ensures c.log-2.ensures c.logs_step-step.ensures c.in-Ok.ensures c.keeping_by.ensures
