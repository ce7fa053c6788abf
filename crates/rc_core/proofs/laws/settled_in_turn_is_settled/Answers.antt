use Rattle.rc_core.proofs.Turns.{settled_in_turn}
use Rattle.rc_core.proofs.laws.settled_in_turn_is_settled.Goals as goal

pub returns : goal.returns
returns _ c events turn = settled_in_turn c events turn
