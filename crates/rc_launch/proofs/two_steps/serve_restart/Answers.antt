use Rattle.std.proofs.Common.{◌∙◌, ap}
use Rattle.rc_launch.specs.HeldHistory.{history_in}
use Rattle.rc_launch.proofs.StepLemmas.{texts_stand}
use Rattle.rc_launch.proofs.two_steps.serve_restart.Goals as goal

pub returns-in-Some-Ok : goal.returns-in-Some-Ok
returns-in-Some-Ok g c = record {
  ended = λ ending same named was held.
      let there = ap history_in c.begin_steps.ensures.held ∙ held in
      c.restart_on-code.ensures.ended ending same named was (there, c.begin_steps.ensures.manner)
      (texts_stand c.in-Some-Ok.field-0 c.in-Some-Ok.texts c.begin_steps.new.self was
      c.in-Some-Ok.field-0-is c.in-Some-Ok.ensures.present there);
}
