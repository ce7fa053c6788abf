use Rattle.rc_args.specs.SessionAsked.{session_ask_of}
use Rattle.rc_dbtext.specs.Base.{bytes_of}
use Rattle.rc_cli.specs.Session.{asked_with}
use Rattle.rc_cli.proofs.ControlledLemmas.{controlled_here}
use Rattle.rc_cli.proofs.sessions.beginning.begin_controlled.Goals as goal

pub returns-in-Ok-None-clause-controlled : goal.returns-in-Ok-None-clause-controlled
returns-in-Ok-None-clause-controlled c =
    controlled_here c.args.service
    (asked_with (session_ask_of c.args.request.now) (bytes_of c.args.base) c.args.live) c.args.db
    c.in_ok-session.session c.names-names.ensures.database c.spelling_is_unique.ensures.value
    c.in_ok-session.ensures.begun (rw c.in-Ok-None.field-0-is at c.in-Ok-None.ensures.none)
