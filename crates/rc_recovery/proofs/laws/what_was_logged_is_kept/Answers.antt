use Rattle.rc_recovery.proofs.Ending.{adds_ends}
use Rattle.rc_recovery.proofs.laws.what_was_logged_is_kept.Goals as goal

pub returns : goal.returns
returns _ logged = adds_ends logged
