use Rattle.std.proofs.Common.{subst, OnOk, OnErr}
use Rattle.rc_model.specs.declared.Event.TheVariants.{Done}
use Rattle.rc_model.specs.Run.{IsLegal}
use Rattle.rc_core.specs.Settled.{RunSoFar}
use Rattle.rc_board.proofs.laws.hold_done.Goals as goal

pub returns-clause-ok : goal.returns-clause-ok
returns-clause-ok c =
    subst (λ (r : RunSoFar). OnOk c.done-done.result
    (IsLegal r.course r.events (Done c.args.worker c.args.service c.args.outcome)))
    c.board.view_is c.done-done.ensures.ok

pub returns-clause-err : goal.returns-clause-err
returns-clause-err c =
    subst (λ (r : RunSoFar). OnErr c.done-done.result
    (IsLegal r.course r.events (Done c.args.worker c.args.service c.args.outcome) → ⊥))
    c.board.view_is c.done-done.ensures.err
