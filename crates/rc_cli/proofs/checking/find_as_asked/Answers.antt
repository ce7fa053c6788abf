use Rattle.std.proofs.Common.{inl, inr, refl}
use Rattle.rc_cli.proofs.checking.find_as_asked.Goals as goal

pub returns-in-Err-clause-fault : goal.returns-in-Err-clause-fault
returns-in-Err-clause-fault g c =
    (c.in-Err.fault, inl (c.in-Err.ensures.none, refl), c.tell_ended.ensures)
