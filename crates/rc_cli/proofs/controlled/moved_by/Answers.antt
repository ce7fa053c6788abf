use Rattle.rc_cli.proofs.controlled.moved_by.Goals as goal

pub returns-in-Command-clause-none : goal.returns-in-Command-clause-none
returns-in-Command-clause-none c = rw c.in-Command.is c.moved_longrun.ensures.none
