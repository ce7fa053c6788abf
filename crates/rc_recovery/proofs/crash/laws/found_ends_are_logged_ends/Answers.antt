use Rattle.rc_recovery.proofs.Found.{more}
use Rattle.rc_recovery.proofs.crash.laws.found_ends_are_logged_ends.Goals as goal

pub returns : goal.returns
returns _ d line new l events w s text f g crash held whole holds is =
    more d line new l events w s text f g crash held whole holds is
