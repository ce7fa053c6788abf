use Rattle.rc_launch.proofs.HistoryCrashed.{of_history}
use Rattle.rc_launch.proofs.crash_laws.crashes_of_sessions_are_of_histories.Goals as goal

pub returns : goal.returns
returns c d line l bytes f g stands crash = of_history d line l bytes f g stands crash
