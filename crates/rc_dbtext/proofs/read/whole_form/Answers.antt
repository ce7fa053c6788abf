use Rattle.std.proofs.Common.{◌∙◌, eq-eqb, length, sym}
use Rattle.std.proofs.lemmas.Bool.{false≢true}
use Rattle.rc_dbtext.proofs.Reading.{more_behind}
use Rattle.rc_dbtext.proofs.read.whole_form.Goals as goal

pub returns-clause-fault : goal.returns-clause-fault
returns-clause-fault c =
    more_behind c.args.bytes.now c.in-Ok.read.1.now c.in-Ok.read.0
    (λ none. false≢true
    (sym c.if-is_empty.false ∙ c.is_empty.ensures ∙ eq-eqb (length c.in-Ok.read.1.now) 0 none))
    c.in-Ok.ensures.ok
