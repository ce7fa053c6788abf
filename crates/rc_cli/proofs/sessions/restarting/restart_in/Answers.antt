use Rattle.std.proofs.Common.{◌∙◌, ℕ, IfOk, List, ap, false, subst}
use Rattle.rc_serve.specs.Ending.{IsDoneAs}
use Rattle.rc_streams.specs.Noting.{inner_of}
use Rattle.rc_args.specs.OnceAsked.{OnceSaying, Said}
use Rattle.rc_args.specs.SessionAsked.{session_ask_of}
use Rattle.rc_cli.specs.Restarting.{LeadsBack, Restarted}
use Rattle.rc_cli.specs.Steps.{lowering}
use Rattle.rc_cli.specs.Storing.{store_of}
use Rattle.rc_cli.proofs.sessions.restarting.restart_in.Goals as goal

pub returns-clause-served : goal.returns-clause-served
returns-clause-served g c =
    subst (λ (what : OnceSaying). Restarted c.serve_steps-ended.result
    (session_ask_of c.args.request.now).live
    (g.S.Store.holds (store_of c.args.outputs.now.keeper))
    (g.S.Store.holds (store_of c.serve_steps-ended.new.outputs.keeper))
    (IsDoneAs c.args.request.now.workers (g.G.Gate.answers c.args.gate.now)
    (g.G.Gate.gives c.args.gate.now)) what
    (g.W.Write.contents (inner_of c.args.outputs.now.writer))
    (g.W.Write.contents (inner_of c.serve_steps-ended.new.outputs.writer)) c.args.session.now)
    (ap Said c.step_line-line.ensures.says
    ∙ ap (λ (ns : List (List ℕ)). lowering false ns) c.in-Ok-copied.ensures)
    c.serve_steps-ended.ensures.served

pub returns-clause-led : goal.returns-clause-led
returns-clause-led g c =
    subst (λ (what : OnceSaying). IfOk c.serve_steps-ended.result (λ ending.
    LeadsBack g.S.Store.put (session_ask_of c.args.request.now).live ending
    what c.args.session.now.database c.args.session.now.line (store_of c.args.outputs.now.keeper)
    (store_of c.serve_steps-ended.new.outputs.keeper)))
    (ap Said c.step_line-line.ensures.says
    ∙ ap (λ (ns : List (List ℕ)). lowering false ns) c.in-Ok-copied.ensures)
    c.serve_steps-ended.ensures.led
