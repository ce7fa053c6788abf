use Rattle.std.proofs.Common.{arith}
use Rattle.rc_compile.proofs.Walks.{new_costs, known_costs}
use Rattle.rc_compile.proofs.members.walk.meet.Goals as goal

pub returns-in_ok-push-clause-cost : goal.returns-in_ok-push-clause-cost
returns-in_ok-push-clause-cost c =
    new_costs _ _ c.args.id _ _ c.insert.ensures.bound c.insert.ensures.members
    (c.insert.ensures.fresh.0 c.if-insert.true) (omega (arith, c.in_ok-push.ensures.len))

pub returns-else-insert-clause-cost : goal.returns-else-insert-clause-cost
returns-else-insert-clause-cost c =
    known_costs _ _ c.args.id _ c.insert.ensures.bound c.insert.ensures.members
