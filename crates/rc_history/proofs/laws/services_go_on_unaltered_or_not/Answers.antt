use Rattle.rc_history.proofs.Unaltered.{unaltered_or_not}
use Rattle.rc_history.proofs.laws.services_go_on_unaltered_or_not.Goals as goal

pub returns : goal.returns
returns c old new list is_old is_new s = unaltered_or_not old new list is_old is_new s
