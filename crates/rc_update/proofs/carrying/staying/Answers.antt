use Rattle.std.proofs.lemmas.Result.{IfOk-weaker}
use Rattle.rc_update.specs.Conversions.{conversions_of}
use Rattle.rc_update.proofs.CarryingLemmas.{stays_holds}
use Rattle.rc_update.proofs.carrying.staying.Goals as goal

pub returns-clause-members : goal.returns-clause-members
returns-clause-members c =
    IfOk-weaker c.left.result _ _
    (λ stays left. stays_holds c.args.old.now c.args.new.now (conversions_of c.args.list.now)
    c.args.live.now c.in_ok-altered.altered stays c.in_ok-altered.ensures.members left)
    c.left.ensures.members
