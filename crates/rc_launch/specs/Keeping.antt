-- What the command of a run log has done to the states of the session.
use Rattle.std.specs.Prelude.{◌≡◌, ◌↔◌, ℕ, Bool, true, false, IsTrue, List}
use Rattle.rc_model.specs.Session.{Command, Redo, Undo}
use Rattle.rc_cli.specs.Begun.{LogsStep, LogsWay}
use Rattle.rc_historytext.specs.declared.keeping.Keeping.{Keeping}
use Rattle.rc_historytext.specs.declared.keeping.Keeping.TheVariants as keeping
use Rattle.rc_recovery.specs.Logging.{Logged}

-- a step of several; or else an undo or a redo; or else another command
abbrev pub keeping_by : (step way : Bool) → Keeping
keeping_by true way = keeping.Step
keeping_by false true = keeping.Way
keeping_by false false = keeping.Command

-- what it has done to the states of the session: what the head of its log says
pub record KeepsAs (text log : List ℕ) (keeping : Keeping) : Type 0 where
  pub step : Bool
  pub way : Bool
  pub marked : IsTrue step ↔ LogsStep text log
  pub logs : IsTrue way ↔ LogsWay text log
  pub is : keeping ≡ keeping_by step way

-- whether a command is an undo or a redo
abbrev pub is_way : Command → Bool
is_way (Undo limit events) = true
is_way (Redo limit events) = true
is_way other = false

-- what a command does to them that logs this
abbrev pub keeping_of : Logged → Keeping
keeping_of l = keeping_by l.marked (is_way l.command)
