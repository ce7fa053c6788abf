use Rattle.std.proofs.Common.{◌∙◌, ap, length, refl, sym}
use Rattle.std.proofs.lemmas.Bool.{eq-eqb, false≢true}
use Rattle.rc_historytext.proofs.Failing.{bad_is_other, none_behind, none_refused, version_is_other}
use Rattle.rc_historytext.proofs.states.session_form.Goals as goal

pub returns-else-is_empty-clause-fault : goal.returns-else-is_empty-clause-fault
returns-else-is_empty-clause-fault c = (
  refl,
  none_behind c.args.session.now c.in-Ok.rest.now c.in-Ok.form c.text_is_unique.ensures.front
      c.in-Ok.ensures.ok
      (λ none. false≢true (sym c.if-is_empty.false ∙ c.is_empty.ensures
      ∙ eq-eqb (length c.in-Ok.rest.now) 0 (ap length none))),
)

pub returns-in-Err-Bad-clause-fault : goal.returns-in-Err-Bad-clause-fault
returns-in-Err-Bad-clause-fault c = (
  refl,
  none_refused c.args.session.now c.in-Err-Bad.field-0 c.text_is_not_refused.ensures
      c.in-Err-Bad.ensures.fault (bad_is_other _ c.in-Err-Bad.field-0 c.in-Err-Bad.field-0-is),
)

pub returns-in-Err-Version-clause-fault : goal.returns-in-Err-Version-clause-fault
returns-in-Err-Version-clause-fault c = (
  refl,
  none_refused c.args.session.now c.in-Err-Version.field-0 c.text_is_not_refused.ensures
      c.in-Err-Version.ensures.fault
      (version_is_other c.in-Err-Version.field-0 c.in-Err-Version.field-0-is),
)
