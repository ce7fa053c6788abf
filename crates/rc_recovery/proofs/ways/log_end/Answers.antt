use Rattle.std.specs.String.{string_bytes}
use Rattle.rc_recovery.specs.UnderWay.{end_of}
use Rattle.rc_recovery.proofs.Found.{may_log}
use Rattle.rc_recovery.proofs.ways.log_end.Goals as goal

pub returns-in-Ok-clause-crash : goal.returns-in-Ok-clause-crash
returns-in-Ok-clause-crash g c = λ h left.
    may_log c.args.names.now (end_of c.args.ended) (g.F.TwoFiles.holds c.args.files.now) h
    string_bytes c.in-Ok-Some.field-0 c.in-Ok-Some.line c.as_bytes.result.now
    (g.F.TwoFiles.left c.args.files.now h) c.in-Ok-Some.field-0-is c.in-Ok-Some.ensures
    c.as_bytes.ensures.value (c.append_log-written.ensures.crash h left)

pub returns-in-Err-written-clause-crash : goal.returns-in-Err-written-clause-crash
returns-in-Err-written-clause-crash g c = λ h left.
    may_log c.args.names.now (end_of c.args.ended) (g.F.TwoFiles.holds c.args.files.now) h
    string_bytes c.in-Ok-Some.field-0 c.in-Ok-Some.line c.as_bytes.result.now
    (g.F.TwoFiles.left c.args.files.now h) c.in-Ok-Some.field-0-is c.in-Ok-Some.ensures
    c.as_bytes.ensures.value (c.append_log-written.ensures.crash h left)
