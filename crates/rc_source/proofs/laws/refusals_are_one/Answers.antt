use Rattle.rc_source.proofs.OneRefusal.{one_refusal}
use Rattle.rc_source.proofs.laws.refusals_are_one.Goals as goal

pub returns : goal.returns
returns c tests a b x y first second not_a not_b =
    one_refusal tests a b x y first second not_a not_b
