use Rattle.rc_livetext.proofs.states.states_in.Goals as goal

pub returns-in-Ok-true-clause-known : goal.returns-in-Ok-true-clause-known
returns-in-Ok-true-clause-known c = c.in-Ok-true.ensures.known.0 c.in-Ok-true.field-0-test
