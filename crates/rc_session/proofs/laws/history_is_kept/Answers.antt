use Rattle.rc_session.proofs.History.{history_kept}
use Rattle.rc_session.proofs.laws.history_is_kept.Goals as goal

pub returns : goal.returns
returns c d line of = history_kept d line of
