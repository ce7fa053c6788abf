use Rattle.std.proofs.Common.{List, subst, ℕ}
use Rattle.rc_historytext.specs.Travelling.{IsAtBorder}
use Rattle.rc_launch.proofs.HaltLemmas.{crossed_step, failed_halts, failed_not_done}
use Rattle.rc_launch.proofs.TravelLemmas.{at_border}
use Rattle.rc_launch.proofs.travel.step.Goals as goal

pub returns-in-Ok-true-clause-ok : goal.returns-in-Ok-true-clause-ok
returns-in-Ok-true-clause-ok g c =
    let on = c.args.way.is_on in
    let border : IsAtBorder on c.history_in.result.now =
    at_border on c.history_in.result.now _ c.in-Ok-true.field-0-test c.in-Ok-true.ensures in
    crossed_step c.cross.result _ _ c.cross.ensures.run c.cross.ensures.ok
    (λ leads named was held. let crossed = leads was held in (
      crossed.0,
      crossed.1,
      (
        subst (λ (history : List ℕ). IsAtBorder on history) (c.history_in.ensures was held) border,
        crossed.2,
      ),
    ))

pub returns-in-Ok-true-clause-fault : goal.returns-in-Ok-true-clause-fault
returns-in-Ok-true-clause-fault g c = failed_not_done c.cross.result c.cross.ensures.fault

pub returns-in-Ok-true-clause-halted : goal.returns-in-Ok-true-clause-halted
returns-in-Ok-true-clause-halted g c = failed_halts c.cross.result _ c.cross.ensures.fault
