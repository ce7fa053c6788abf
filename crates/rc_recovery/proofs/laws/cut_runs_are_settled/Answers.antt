use Rattle.rc_recovery.proofs.Ending.{ends_run, none_held, settled_stopped}
use Rattle.rc_recovery.proofs.laws.cut_runs_are_settled.Goals as goal

pub returns-clause-stopped : goal.returns-clause-stopped
returns-clause-stopped _ c logged d run fresh deadline low =
    settled_stopped c logged d run fresh deadline low

pub returns-clause-run : goal.returns-clause-run
returns-clause-run _ c logged run = (ends_run c logged run, none_held logged)
