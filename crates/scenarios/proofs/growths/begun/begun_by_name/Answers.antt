use Rattle.std.proofs.Common.{Result, [], IfOk}
use Rattle.std.proofs.lemmas.Result.{IfOk-weaker}
use Rattle.rc_model.specs.declared.Refusal.{Refusal}
use Rattle.rc_model.specs.Session.{Command, Change, Undo, Redo}
use Rattle.rc_select.specs.Ask.{ask_of}
use Rattle.rc_session.specs.Holding.{Holding, Task, IsBegun, IsOfSession}
use Rattle.scenarios.proofs.growths.begun.begun_by_name.Goals as goal

-- a task of some command
of_task : (h : Holding) (r : Result Task Refusal) (command : Command)
    → IfOk r (IsBegun h command 0) → IfOk r (IsOfSession h)
of_task h r command =
    IfOk-weaker r (IsBegun h command 0) (IsOfSession h) (λ task begun. (command, 0, begun))

pub returns-in-Change-clause-task : goal.returns-in-Change-clause-task
returns-in-Change-clause-task c =
    of_task c.begin_change.new.self c.begin_change.result (Change (ask_of c.in-Change.request) [])
    (c.begin_change.ensures.task [])

pub returns-in-Undo-clause-task : goal.returns-in-Undo-clause-task
returns-in-Undo-clause-task c =
    of_task c.begin_undo.new.self c.begin_undo.result (Undo c.in-Undo.limit [])
    (c.begin_undo.ensures.task [])

pub returns-in-Redo-clause-task : goal.returns-in-Redo-clause-task
returns-in-Redo-clause-task c =
    of_task c.begin_redo.new.self c.begin_redo.result (Redo c.in-Redo.limit [])
    (c.begin_redo.ensures.task [])
