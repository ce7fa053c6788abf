use Rattle.std.proofs.Common.{[]}
use Rattle.rc_cli.proofs.controlled.begin_run.Goals as goal

pub returns-in-Change-clause-err : goal.returns-in-Change-clause-err
returns-in-Change-clause-err c = rw c.in-Change.is (c.begin_change.ensures.err [])

pub returns-in-Undo-clause-err : goal.returns-in-Undo-clause-err
returns-in-Undo-clause-err c = rw c.in-Undo.is (c.begin_undo.ensures.err [])

pub returns-in-Redo-clause-err : goal.returns-in-Redo-clause-err
returns-in-Redo-clause-err c = rw c.in-Redo.is (c.begin_redo.ensures.err [])
