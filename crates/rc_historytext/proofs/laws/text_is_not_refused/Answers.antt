use Rattle.rc_historytext.proofs.OneFault.{not_refused}
use Rattle.rc_historytext.proofs.laws.text_is_not_refused.Goals as goal

pub returns : goal.returns
returns c t fault is refused = not_refused t fault is refused
