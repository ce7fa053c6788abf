use Rattle.std.proofs.Common.{◌∙◌, length, sym}
use Rattle.std.proofs.lemmas.Bool.{eq-eqb, eqb-true, false≢true}
use Rattle.rc_livetext.proofs.Reading.{more_behind, nothing_behind, rest_within}
use Rattle.rc_livetext.proofs.read.whole_form.Goals as goal

pub returns-then-is_empty-clause-ok : goal.returns-then-is_empty-clause-ok
returns-then-is_empty-clause-ok c =
    nothing_behind c.args.bytes.now c.in-Ok.read.1.now c.in-Ok.read.0
    (eqb-true _ 0 (sym c.is_empty.ensures ∙ c.if-is_empty.true)) c.in-Ok.ensures.ok

pub returns-clause-fault : goal.returns-clause-fault
returns-clause-fault c = λ d.
    more_behind d c.args.bytes.now c.in-Ok.read.1.now c.in-Ok.read.0
    (λ none. false≢true
    (sym c.if-is_empty.false ∙ c.is_empty.ensures ∙ eq-eqb (length c.in-Ok.read.1.now) 0 none))
    c.in-Ok.ensures.ok

pub told-requires : goal.told-requires
told-requires c = c.in-Err.ensures.fault

pub returns-in-Err-clause-fault : goal.returns-in-Err-clause-fault
returns-in-Err-clause-fault c = c.told.ensures

pub overflow_sub-result : goal.overflow_sub-result
overflow_sub-result c =
    rest_within c.args.bytes.now c.in-Ok.read.1.now c.in-Ok.read.0 c.in-Ok.ensures.ok
