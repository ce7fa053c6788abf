use Rattle.rc_recovery.proofs.Found.{unended_held}
use Rattle.rc_recovery.proofs.laws.what_is_unended_is_held.Goals as goal

pub returns : goal.returns
returns _ live logged = unended_held live logged
