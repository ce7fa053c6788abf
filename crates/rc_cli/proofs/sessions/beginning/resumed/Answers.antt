use Rattle.rc_cli.proofs.SessionLemmas.{live_fault}
use Rattle.rc_cli.proofs.sessions.beginning.resumed.Goals as goal

pub resume-requires-clause-closed : goal.resume-requires-clause-closed
resume-requires-clause-closed c = c.in-Ok.ensures.line.1

pub resume-requires-clause-states : goal.resume-requires-clause-states
resume-requires-clause-states c = (c.in-Ok.ensures.line.0).each

pub returns-in-Err-clause-begun : goal.returns-in-Err-clause-begun
returns-in-Err-clause-begun c = tt

pub returns-in-Err-clause-fault : goal.returns-in-Err-clause-fault
returns-in-Err-clause-fault c =
    live_fault c.args.db c.args.bytes.now c.in-Err.fault c.from.result c.from.ensures
    c.in-Err.ensures.fault
