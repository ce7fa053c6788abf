use Rattle.std.proofs.Common.{◌∙◌, ap, refl}
use Rattle.rc_launch.specs.HeldHistory.{history_in}
use Rattle.rc_launch.proofs.StepLemmas.{present_as, texts_stand}
use Rattle.rc_launch.proofs.mending.mend_present.Goals as goal

pub returns-in-Some-Ok : goal.returns-in-Some-Ok
returns-in-Some-Ok g c = record {
  done = λ done named was held.
      let there = ap history_in c.begin_steps.ensures.held ∙ held in
      let texts = c.in-Some-Ok.texts in
      c.mend_on-code.ensures.done done named c.deref.result refl was
      (there, c.begin_steps.ensures.manner)
      (present_as was c.deref-in-Some-Ok.result.now c.deref.result.now texts.database.items
      texts.session.items
      (texts_stand c.in-Some-Ok.field-0 texts c.begin_steps.new.self was c.in-Some-Ok.field-0-is
      c.in-Some-Ok.ensures.present there) c.deref-in-Some-Ok.ensures.value c.deref.ensures.value);
}
