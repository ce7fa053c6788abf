use Rattle.rc_session.proofs.FailedWays.{undos_go_on, redos_go_on}
use Rattle.rc_session.proofs.laws.next_goes_on.Goals as goal

pub returns-clause-undo : goal.returns-clause-undo
returns-clause-undo c d line is_db of = undos_go_on d is_db line of

pub returns-clause-redo : goal.returns-clause-redo
returns-clause-redo c d line is_db of = redos_go_on d is_db line of
