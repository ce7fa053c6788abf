use Rattle.std.proofs.lemmas.Result.{err_from_is_err_and}
use Rattle.rc_historytext.proofs.Reading.{no_renames, renames_stop}
use Rattle.rc_historytext.proofs.read.renames_of.Goals as goal

pub returns-in_default-clause-fault : goal.returns-in_default-clause-fault
returns-in_default-clause-fault c = λ more.
    no_renames c.args.is_oldest more c.args.bytes.now (c.in_default.ensures more)

pub returns-in_err-renames-clause-fault : goal.returns-in_err-renames-clause-fault
returns-in_err-renames-clause-fault c =
    let p = err_from_is_err_and c.from_residual.result c.from_residual.ensures.1 in
    rw (p.1, p.2)
    (λ more. renames_stop c.args.is_oldest more c.in-Some.count c.args.bytes.now c.in-Some.rest.now
    c.in_err-renames.field-0.0 c.in-Some.ensures.0 c.in-Some.ensures.1
    (c.in_err-renames.ensures.fault more))
