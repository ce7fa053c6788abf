use Rattle.rc_source.proofs.OneMeaning.{one_meaning}
use Rattle.rc_source.proofs.laws.meanings_are_one.Goals as goal

pub returns : goal.returns
returns c source entry a b x y = one_meaning source entry a b x y
