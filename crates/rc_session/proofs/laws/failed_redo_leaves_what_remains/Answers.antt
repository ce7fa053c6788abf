use Rattle.rc_session.proofs.FailedWays.{redo_leaves}
use Rattle.rc_session.proofs.laws.failed_redo_leaves_what_remains.Goals as goal

pub returns : goal.returns
returns c d line of = redo_leaves d line of
