-- What a gate of a session may answer, and the moments that it may give.
use Rattle.std.specs.Prelude.{◌≡◌, ℕ}
use Rattle.rc_graph.specs.declared.Way.{Way}
use Rattle.rc_model.specs.declared.Outcome.{Outcome}
use Rattle.rc_runner.specs.Failing.{outcome_in}
use Rattle.rc_runner.specs.Moments.{IsMomentOf}
use Rattle.rc_runner.specs.Shell.{MayAnswer}
use Rattle.rc_runner.specs.declared.session_gate.SessionGate.{SessionGate}
use Rattle.rc_runner.specs.declared.session_gate.SessionGate.TheVariants.{Table, Shell}

-- by a table what stands there; by programs what they may end with
abbrev pub gate_answers : {R L : Type 0} → SessionGate R L → ℕ → Way → Outcome → Type 0
gate_answers (Table table) s way outcome = outcome ≡ outcome_in table.failing s way
gate_answers (Shell shell) s way outcome = MayAnswer shell.scripts s way outcome

-- a table's clock gives its own; of another clock nothing is known
abbrev pub gate_gives : {R L : Type 0} → SessionGate R L → ℕ → Type 0
gate_gives (Table table) moment = IsMomentOf table.moments moment
gate_gives (Shell shell) moment = Unit {0}
