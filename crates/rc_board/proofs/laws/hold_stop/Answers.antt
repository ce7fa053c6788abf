use Rattle.std.proofs.Common.{subst, OnErr}
use Rattle.rc_model.specs.declared.Event.TheVariants.{Stop}
use Rattle.rc_model.specs.Run.{IsLegal}
use Rattle.rc_core.specs.Settled.{RunSoFar}
use Rattle.rc_board.proofs.laws.hold_stop.Goals as goal

pub returns-clause-err : goal.returns-clause-err
returns-clause-err c =
    subst (λ (r : RunSoFar). OnErr c.stop-stopped.result
    (IsLegal r.course r.events (Stop c.args.worker c.args.moment) → ⊥))
    c.board.view_is c.stop-stopped.ensures.err
