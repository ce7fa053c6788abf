use Rattle.rc_select.proofs.select.wanted.Goals as goal

pub returns-in-Err-clause-fault : goal.returns-in-Err-clause-fault
returns-in-Err-clause-fault c =
    c.fault_of.ensures _ _ _ (rw (← c.deref.ensures.value) c.in-Err.ensures.fault)

pub returns-clause-known : goal.returns-clause-known
returns-clause-known c = rw (← c.deref.ensures.value) c.in-Ok.ensures.known
