-- A command is served on texts that were read. The clauses are those of `launch`. They speak of the
-- request that `opened.session()` returns, so they are carried over to that of the command.
use Rattle.std.proofs.Common.{Some, subst}
use Rattle.rc_args.specs.SessionAsked.{session_ask_of}
use Rattle.rc_args.specs.declared.session_request.SessionRequest.{SessionRequest}
use Rattle.rc_cli.specs.Launching.{Launches, LeadsLaunched}
use Rattle.rc_cli.specs.Session.{asked_with, dealt}
use Rattle.rc_cli.specs.Storing.{store_of}
use Rattle.rc_streams.specs.Noting.{HasFailed, inner_of}
use Rattle.rc_launch.proofs.serving.serve_on.Goals as goal

pub returns-clause-ended : goal.returns-clause-ended
returns-clause-ended g c =
    let was = c.args.devices.now in
    let is = c.launch.new.devices in
    subst (λ (request : SessionRequest). Launches c.args.service
    (asked_with (session_ask_of request) (Some c.args.base.now) c.args.live) c.launch.result
    (dealt g.R.Read.remaining g.W.Write.contents g.S.Store.holds was.reader is.reader was.outputs
    is.outputs) (HasFailed is.reader) (HasFailed is.outputs.writer)
    (g.S.Store.failed (store_of is.outputs.keeper)) (g.F.Write.contents was.faults)
    (g.F.Write.contents is.faults)) c.session.ensures c.launch.ensures.ended

pub returns-clause-led : goal.returns-clause-led
returns-clause-led g c ending same =
    let was = c.args.devices.now in
    let is = c.launch.new.devices in
    subst (λ (request : SessionRequest). LeadsLaunched g.S.Store.put c.args.service
    (asked_with (session_ask_of request) (Some c.args.base.now) c.args.live) ending
    (g.R.Read.remaining (inner_of was.reader)) (g.R.Read.remaining (inner_of is.reader))
    (store_of was.outputs.keeper) (store_of is.outputs.keeper)) c.session.ensures
    (c.launch.ensures.led ending same)
