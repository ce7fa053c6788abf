use Rattle.rc_livetext.proofs.Heading.{no_version_line, other_version}
use Rattle.rc_livetext.proofs.heads.first_line.Goals as goal

pub returns-in_default-clause-fault : goal.returns-in_default-clause-fault
returns-in_default-clause-fault c = no_version_line c.args.bytes.now c.in_default.ensures

pub returns-in-None-clause-fault : goal.returns-in-None-clause-fault
returns-in-None-clause-fault c =
    let read = c.in-Some.ensures in
    other_version c.args.bytes.now c.in-Some.number.now c.in-Some.rest.now read.0 read.1
    c.in-None.ensures
