use Rattle.rc_livetext.proofs.Reading.{refused, spelled}
use Rattle.rc_livetext.proofs.read.read_live.Goals as goal

pub returns-in-Err-clause-fault : goal.returns-in-Err-clause-fault
returns-in-Err-clause-fault c = c.in-Err.ensures.fault c.args.db.now

pub returns-in-Ok-line_of-clause-text : goal.returns-in-Ok-line_of-clause-text
returns-in-Ok-line_of-clause-text c =
    spelled c.args.db.now c.args.bytes.now c.in-Ok.form c.in-Ok.ensures.ok c.in-Ok-line_of.line.line
    c.in-Ok.form.bound c.in-Ok-line_of.ensures.text

pub returns-clause-fault : goal.returns-clause-fault
returns-clause-fault c =
    refused c.args.db.now c.args.bytes.now c.in-Ok.form c.in-Ok.ensures.ok c.in-Err-line_of.fault
    c.in-Err-line_of.ensures.fault
