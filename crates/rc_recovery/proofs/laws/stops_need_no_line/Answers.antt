use Rattle.rc_recovery.proofs.Unstopped.{live_unstopped, not_stopped, unstopped_run}
use Rattle.rc_recovery.proofs.laws.stops_need_no_line.Goals as goal

pub returns-clause-run : goal.returns-clause-run
returns-clause-run _ c events run = (unstopped_run c events run, not_stopped events)

pub returns-clause-live : goal.returns-clause-live
returns-clause-live _ c events s = live_unstopped c events s
