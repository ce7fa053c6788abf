use Rattle.rc_core.proofs.run.Run.done.Goals as goal

pub add_done-requires : goal.add_done-requires
add_done-requires c = c.holds.ensures.0 c.if-not-holds.false

pub returns-clause-ok : goal.returns-clause-ok
returns-clause-ok c = c.holds.ensures.0 c.if-not-holds.false
