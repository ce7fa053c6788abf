use Rattle.rc_historytext.proofs.OneFault.{one_fault}
use Rattle.rc_historytext.proofs.laws.faults_are_one.Goals as goal

pub returns : goal.returns
returns c bytes a b of_a of_b not_a not_b = one_fault bytes a b of_a of_b not_a not_b
