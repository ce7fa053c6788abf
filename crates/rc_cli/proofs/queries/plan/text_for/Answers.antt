use Rattle.std.proofs.Common.{inl}
use Rattle.rc_cli.proofs.queries.plan.text_for.Goals as goal

pub returns-in-Err-clause-fault : goal.returns-in-Err-clause-fault
returns-in-Err-clause-fault c =
    inl (rw (c.names.ensures.names, c.graph.ensures.graph) at c.in-Err.ensures.fault)
