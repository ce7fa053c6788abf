use Rattle.std.proofs.Common.{map}
use Rattle.rc_args.specs.Reading.{listed_of}
use Rattle.rc_cli.proofs.SessionLemmas.{gateless}
use Rattle.rc_cli.proofs.sessions.gates.quiet_gate.Goals as goal

pub returns-in-Err-clause-fault : goal.returns-in-Err-clause-fault
returns-in-Err-clause-fault g c =
    rw c.in-Table.is (rw c.deref.ensures.value at
    (gateless c.names.result.now c.args.db.now (map listed_of c.deref.result.now) c.in-Err.fault
    c.from.result c.names.ensures.names c.from.ensures c.in-Err.ensures.fault))
