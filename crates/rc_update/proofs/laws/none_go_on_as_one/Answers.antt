use Rattle.rc_update.proofs.DistinctLemmas.{none_as_one}
use Rattle.rc_update.proofs.laws.none_go_on_as_one.Goals as goal

pub returns : goal.returns
returns c old new list s t u of apart first second =
    none_as_one old new list s t u of apart first second
