use Rattle.std.proofs.Common.{◌∙◌, sym}
use Rattle.std.proofs.lemmas.Bool.{false≢true}
use Rattle.rc_historytext.proofs.Reading.{no_version_line}
use Rattle.rc_historytext.proofs.lines.first_line.Goals as goal

pub returns-in_default-clause-fault : goal.returns-in_default-clause-fault
returns-in_default-clause-fault c = no_version_line c.args.bytes.now c.in_default.ensures

pub returns-else-is-clause-fault : goal.returns-else-is-clause-fault
returns-else-is-clause-fault c = (
  c.in-Some.number.now,
  c.in-Some.rest.now,
  c.in-Some.ensures.0,
  (λ same. false≢true (sym c.if-is.false ∙ c.is.ensures.1 same)),
  c.in-Some.ensures.1,
)
