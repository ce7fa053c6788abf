use Rattle.std.proofs.lemmas.Result.{IfOk-weaker}
use Rattle.rc_recovery.proofs.Found.{under_way_of}
use Rattle.rc_recovery.proofs.ways.under_way.Goals as goal

pub returns : goal.returns
returns c =
    IfOk-weaker c.logged_under_way-found.result _ _
    (λ found is. under_way_of c.args.db.now c.args.text.now c.args.log.now c.in-Ok.line.line
    c.names.result.now c.live.result.now found.items c.if-not-ends_whole.ensures
    c.in-Ok.ensures.line.0 c.in-Ok.ensures.text c.names.ensures.names c.live.ensures is)
    c.logged_under_way-found.ensures
