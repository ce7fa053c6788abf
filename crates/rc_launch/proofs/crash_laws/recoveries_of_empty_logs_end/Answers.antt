use Rattle.rc_launch.proofs.HistoryCrashed.{ends_as_it_was}
use Rattle.rc_launch.proofs.crash_laws.recoveries_of_empty_logs_end.Goals as goal

pub returns : goal.returns
returns c d line bytes stands = ends_as_it_was d line bytes stands
