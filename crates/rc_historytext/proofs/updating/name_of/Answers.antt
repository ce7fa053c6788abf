use Rattle.std.proofs.Common.{refl, subst, sym}
use Rattle.rc_model.specs.Names.{IsName}
use Rattle.rc_historytext.proofs.updating.name_of.Goals as goal

pub returns-in-None-clause-fault : goal.returns-in-None-clause-fault
returns-in-None-clause-fault c =
    (refl, λ is. c.in-None.ensures (subst IsName (sym c.in-Ok.ensures.cases.0) is))

pub returns-in-Err-clause-fault : goal.returns-in-Err-clause-fault
returns-in-Err-clause-fault c = (refl, λ is. c.in-Err.ensures.cases.0 is.utf8)
