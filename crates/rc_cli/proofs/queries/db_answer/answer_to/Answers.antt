use Rattle.rc_cli.proofs.queries.db_answer.answer_to.Goals as goal

pub returns-in-Err-clause-fault : goal.returns-in-Err-clause-fault
returns-in-Err-clause-fault c =
    rw c.in-OfName.is
    (c.in-Err.fault, c.in-Err.ensures.fault, rw c.in-OfName.is at c.query_fault.ensures)
