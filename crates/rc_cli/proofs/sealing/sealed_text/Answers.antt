use Rattle.std.proofs.Common.{◌∙◌, ap}
use Rattle.rc_line.specs.Opening.{Journal}
use Rattle.rc_model.specs.Session.{IsStateOf}
use Rattle.rc_session.proofs.States.{current_state}
use Rattle.rc_cli.specs.Serving.{session_on}
use Rattle.rc_cli.proofs.SessionLemmas.{live_fault}
use Rattle.rc_cli.proofs.UpdateLemmas.{one_state}
use Rattle.rc_cli.proofs.sealing.sealed_text.Goals as goal

pub current_of-current-requires : goal.current_of-current-requires
current_of-current-requires c = record { line = (c.in-Ok.ensures.line.0).is_line }

pub resumed-requires-clause-closed : goal.resumed-requires-clause-closed
resumed-requires-clause-closed c = ap (λ (j : Journal). j.is_open) c.in-Ok-current.ensures

pub resumed-requires-clause-states : goal.resumed-requires-clause-states
resumed-requires-clause-states c =
    one_state (IsStateOf c.args.db) c.in-Ok-current.current.line c.in-Ok.read.0.line.current
    c.in-Ok.read.0.line.bound (ap (λ (j : Journal). j.line) c.in-Ok-current.ensures)
    (current_state c.args.db c.in-Ok.read.0.line c.in-Ok.ensures.line.0)

pub returns-in-Ok-current-clause-sealed : goal.returns-in-Ok-current-clause-sealed
returns-in-Ok-current-clause-sealed c = (
  c.in-Ok.read.0.line,
  c.in-Ok.ensures.line.0,
  c.in-Ok.ensures.text,
  c.resumed.ensures ∙ ap (λ (j : Journal). session_on c.args.db j.line) c.in-Ok-current.ensures,
)

pub returns-in-Err-clause-fault : goal.returns-in-Err-clause-fault
returns-in-Err-clause-fault c =
    live_fault c.args.db c.args.bytes.now c.in-Err.fault c.from.result c.from.ensures
    c.in-Err.ensures.fault
