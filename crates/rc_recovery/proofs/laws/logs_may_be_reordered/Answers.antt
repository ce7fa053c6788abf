use Rattle.rc_recovery.proofs.Reordering.{reordered_live, reordered_run}
use Rattle.rc_recovery.proofs.laws.logs_may_be_reordered.Goals as goal

pub returns-clause-run : goal.returns-clause-run
returns-clause-run _ c steps old new are run = reordered_run c steps old new are run

pub returns-clause-live : goal.returns-clause-live
returns-clause-live _ c steps old new are run = reordered_live c steps old new are run
