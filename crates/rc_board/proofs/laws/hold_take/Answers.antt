use Rattle.std.proofs.Common.{subst, OnOk, OnErr}
use Rattle.rc_model.specs.Run.{IsWorker, IsFree}
use Rattle.rc_core.specs.Settled.{RunSoFar}
use Rattle.rc_board.proofs.laws.hold_take.Goals as goal

pub returns-clause-ok : goal.returns-clause-ok
returns-clause-ok c =
    subst (λ (r : RunSoFar). OnOk c.take-took.result
    (IsWorker c.args.worker × IsFree r.events c.args.worker))
    c.board.view_is c.take-took.ensures.ok

pub returns-clause-err : goal.returns-clause-err
returns-clause-err c =
    subst (λ (r : RunSoFar). OnErr c.take-took.result
    (IsWorker c.args.worker × IsFree r.events c.args.worker → ⊥))
    c.board.view_is c.take-took.ensures.err
