use Rattle.rc_cli.proofs.ControlledLemmas.{none_weaker}
use Rattle.rc_cli.proofs.controlled.uncontrolled.Goals as goal

pub returns-in-Restart-clause-none : goal.returns-in-Restart-clause-none
returns-in-Restart-clause-none c = rw c.in-Restart.is
    (none_weaker c.moved_down.result _ _ (λ none base lacks. none) c.moved_down.ensures.none)
