use Rattle.rc_recovery.proofs.Ending.{live_as_known, live_as_known_stopped}
use Rattle.rc_recovery.proofs.laws.what_is_known_to_be_up_is_live.Goals as goal

pub returns-clause-ends : goal.returns-clause-ends
returns-clause-ends _ c logged s = live_as_known c logged s

pub returns-clause-stop : goal.returns-clause-stop
returns-clause-stop _ c logged s = live_as_known_stopped c logged s
