use Rattle.std.proofs.Common.{◌∙◌, List, ℕ, subst, sym}
use Rattle.rc_cli.specs.Storing.{store_of}
use Rattle.rc_historytext.specs.Travelling.{RunsInside}
use Rattle.rc_launch.specs.Halted.{StepEndsBy}
use Rattle.rc_launch.specs.HeldHistory.{KeepsIn, LeadsOn}
use Rattle.rc_launch.proofs.travel.run_inside.Goals as goal

pub returns-in-Ok-begin_way-clause-done : goal.returns-in-Ok-begin_way-clause-done
returns-in-Ok-begin_way-clause-done g c done named was held =
    subst (λ (history : List ℕ). LeadsOn history (store_of c.run_on-code.new.devices.outputs.keeper)
    (RunsInside c.args.way.is_on))
    ((c.deref.ensures.value ∙ c.in-Ok.ensures.items) ∙ c.history_in.ensures was held)
    (c.run_on-code.ensures.done done named)

pub returns-in-Ok-begin_way-clause-halted : goal.returns-in-Ok-begin_way-clause-halted
returns-in-Ok-begin_way-clause-halted g c halted named was held =
    let same = (c.deref.ensures.value ∙ c.in-Ok.ensures.items) ∙ c.history_in.ensures was held in
    let there = c.begin_way.new.self in
    subst (λ (history : List ℕ). LeadsOn history (store_of c.run_on-code.new.devices.outputs.keeper)
    (StepEndsBy c.run_on-code.result c.args.way.is_on)) same
    (c.run_on-code.ensures.halted halted named
    (subst (λ (history : List ℕ). KeepsIn history there) (sym same)
    (c.in-Ok-begin_way.ensures.stands was (c.in-Ok-begin_way.ensures.history ∙ held))))
