use Rattle.std.proofs.Common.{List, ap, inr, map, ◌∙◌}
use Rattle.std.proofs.lemmas.Result.{IfOk-weaker}
use Rattle.rc_session.specs.Commands.{command_of}
use Rattle.rc_session.specs.declared.step.Step.{Step}
use Rattle.rc_recovery.specs.Logged.{events_logged}
use Rattle.rc_recovery.proofs.logged.logged_events.Goals as goal

pub returns-in-Ok : goal.returns-in-Ok
returns-in-Ok c =
    IfOk-weaker c.events_of.result _ _
    (λ events same. inr (
      c.whole_lines.result.now,
      (c.in-Some.rest.now, c.in-Some.ensures, c.whole_lines.ensures),
      inr (
        map command_of c.in-Ok.steps.items,
        c.in-Ok.ensures.steps,
        same ∙ ap (λ (steps : List Step). events_logged (map command_of steps))
            c.deref.ensures.value,
      ),
    )) c.events_of.ensures
