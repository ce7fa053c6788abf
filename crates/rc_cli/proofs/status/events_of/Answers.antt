use Rattle.std.proofs.lemmas.Result.{IfOk-weaker}
use Rattle.rc_cli.proofs.StatusLemmas.{file_logged}
use Rattle.rc_cli.proofs.status.events_of.Goals as goal

pub returns-in-Text : goal.returns-in-Text
returns-in-Text c =
    IfOk-weaker c.logged_events.result _ _
    (λ events logged. file_logged c.args.db.now c.names.result.now c.args.live c.in-Text.bytes
    c.args.log.now events.items c.in-Text.is c.names.ensures.names logged)
    c.logged_events.ensures
