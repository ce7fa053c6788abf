use Rattle.std.proofs.Common.{inl, inr, subst}
use Rattle.std.proofs.lemmas.Result.{err_from_is_err_and}
use Rattle.rc_historytext.specs.Text.{GenerationText}
use Rattle.rc_historytext.specs.CallFaults.{IsSessionFault}
use Rattle.rc_historytext.proofs.marks.marks_of.Goals as goal

pub returns-in_err-old-clause-fault : goal.returns-in_err-old-clause-fault
returns-in_err-old-clause-fault c =
    let p = err_from_is_err_and c.from_residual.result c.from_residual.ensures.1 in
    rw (p.1, p.2)
    (inl
    (subst (λ (g : GenerationText). IsSessionFault g.session c.in_err-old.field-0.0)
    c.generation.view_is c.in_err-old.ensures.fault))

pub returns-in-Err-clause-fault : goal.returns-in-Err-clause-fault
returns-in-Err-clause-fault c = inr c.in-Err.ensures.fault
