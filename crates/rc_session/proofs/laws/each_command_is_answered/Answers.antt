use Rattle.rc_session.proofs.Answered.{each_answered}
use Rattle.rc_session.proofs.laws.each_command_is_answered.Goals as goal

pub returns : goal.returns
returns c d line is_db of = each_answered d line is_db of
