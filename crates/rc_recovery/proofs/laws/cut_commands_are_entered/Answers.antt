use Rattle.rc_recovery.proofs.Refusing.{entered}
use Rattle.rc_recovery.proofs.laws.cut_commands_are_entered.Goals as goal

pub returns : goal.returns
returns _ d line command refusal runs cut fault = entered d line command refusal runs cut fault
