use Rattle.std.proofs.Common.{◌≤◌, ap, arith, length}
use Rattle.rc_streams.specs.Noting.{HasFailed, inner_of}
use Rattle.rc_dbtext.specs.Base.{bytes_of}
use Rattle.rc_cli.proofs.LaunchLemmas.{reading_fails, unread_told}
use Rattle.rc_cli.proofs.sessions.launching.whole_input.Goals as goal

pub returns-in-Ok-clause-read : goal.returns-in-Ok-clause-read
returns-in-Ok-clause-read g c =
    let within : length c.in-Ok.input.items ≤ 16777216 =
    omega (arith, c.in-Ok.input.ok.0, c.in-Ok.ensures.within) in
    rw c.in-None.is (c.in-Ok.ensures.whole, within, c.in-Ok.ensures.end)

pub returns-in-Err-clause-fault : goal.returns-in-Err-clause-fault
returns-in-Err-clause-fault g c =
    (reading_fails c.reading_fault.result c.in-Err.failure (bytes_of c.args.base)
    (g.R.Read.remaining (inner_of c.args.reader.now)) (HasFailed c.read_all.new.reader)
    (ap bytes_of c.in-None.is) c.reading_fault.ensures c.in-Err.ensures.fault).0

pub returns-in-Err-clause-unserved : goal.returns-in-Err-clause-unserved
returns-in-Err-clause-unserved g c =
    (reading_fails c.reading_fault.result c.in-Err.failure (bytes_of c.args.base)
    (g.R.Read.remaining (inner_of c.args.reader.now)) (HasFailed c.read_all.new.reader)
    (ap bytes_of c.in-None.is) c.reading_fault.ensures c.in-Err.ensures.fault).1

pub returns-in-Err-clause-told : goal.returns-in-Err-clause-told
returns-in-Err-clause-told g c failed =
    unread_told c.read_all.result c.in-Err.failure c.reading_fault.result
    (HasFailed c.args.reader.now) (c.read_all.ensures.told failed) c.requires
    c.in-Err.is c.reading_fault.ensures
