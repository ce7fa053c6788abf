use Rattle.rc_args.specs.SessionAsked.{session_ask_of}
use Rattle.rc_dbtext.specs.Base.{bytes_of}
use Rattle.rc_cli.specs.Session.{asked_with}
use Rattle.rc_cli.proofs.LaunchLemmas.{begin_unready, gateless_unready, past_found}
use Rattle.rc_cli.proofs.sessions.beginning.begin_gated.Goals as goal

pub returns-in-Err-clause-fault : goal.returns-in-Err-clause-fault
returns-in-Err-clause-fault g c =
    let asked = asked_with (session_ask_of c.args.request.now) (bytes_of c.args.base) c.args.live in
    gateless_unready c.in-Err.fault c.args.service asked c.args.db c.in-Err.ensures.fault

pub returns-in-Err-begin_controlled-clause-fault : goal.returns-in-Err-begin_controlled-clause-fault
returns-in-Err-begin_controlled-clause-fault g c =
    let asked = asked_with (session_ask_of c.args.request.now) (bytes_of c.args.base) c.args.live in
    begin_unready c.in-Err-begin_controlled.fault c.args.service asked c.args.db
    (past_found c.args.db asked.ask.making c.in-Ok.gate c.in-Ok.ensures.made)
    c.in-Err-begin_controlled.ensures.fault
