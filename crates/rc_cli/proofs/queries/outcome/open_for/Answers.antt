use Rattle.rc_cli.proofs.QueryLemmas.{none_something, read_something}
use Rattle.rc_cli.proofs.queries.outcome.open_for.Goals as goal

pub returns-then-reads-clause-unread : goal.returns-then-reads-clause-unread
returns-then-reads-clause-unread g c nothing =
    absurd (read_something c.args.reads c.args.base c.if-reads.true nothing)

pub returns-in-None-clause-fault : goal.returns-in-None-clause-fault
returns-in-None-clause-fault g c =
    rw (c.in-None.is, c.if-reads.false) c.open-in-None.ensures.fault

pub returns-in-None-clause-unread : goal.returns-in-None-clause-unread
returns-in-None-clause-unread g c nothing =
    absurd (none_something c.args.reads c.args.base c.in-None.is nothing)
