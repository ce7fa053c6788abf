use Rattle.std.proofs.Common.{◌∙◌, ap}
use Rattle.std.proofs.lemmas.Result.{IfOk-weaker}
use Rattle.rc_recovery.specs.UnderWay.{unended}
use Rattle.rc_recovery.proofs.ways.logged_under_way.Goals as goal

pub returns : goal.returns
returns c =
    IfOk-weaker c.unended-found.result _ _
    (λ found is. (
      c.in_ok-events.events.items,
      c.in_ok-events.ensures,
      is ∙ ap (unended c.args.live.now) c.deref.ensures.value,
    )) c.unended-found.ensures
