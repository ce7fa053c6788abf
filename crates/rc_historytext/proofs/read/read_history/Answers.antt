use Rattle.std.proofs.Common.{◌∙◌, length, sym}
use Rattle.std.proofs.lemmas.Bool.{eq-eqb, false≢true}
use Rattle.rc_historytext.proofs.Reading.{missing_fault, more_fault}
use Rattle.rc_historytext.proofs.read.read_history.Goals as goal

pub returns-in-Err-Missing-clause-fault : goal.returns-in-Err-Missing-clause-fault
returns-in-Err-Missing-clause-fault c =
    missing_fault c.args.bytes.now c.in-Ok.first.now c.in-Err-Missing.left c.in-Ok.ensures.ok
    (rw c.in-Err-Missing.field-0-is at c.in-Err-Missing.ensures.fault)

pub returns-clause-fault : goal.returns-clause-fault
returns-clause-fault c =
    more_fault c.args.bytes.now c.in-Ok.first.now c.in-Ok-history_after.read.1.now
    c.in-Ok-history_after.read.0 c.in-Ok-history_after.ensures.ok.0 c.in-Ok.ensures.ok
    c.in-Ok-history_after.ensures.ok.1
    (λ none. false≢true (sym c.if-is_empty.false ∙ c.is_empty.ensures
    ∙ eq-eqb (length c.in-Ok-history_after.read.1.now) 0 none))
