use Rattle.rc_cli.proofs.sealing.seal_as_asked.Goals as goal

pub returns-clause-ended : goal.returns-clause-ended
returns-clause-ended g c =
    (c.seal_text-ended.result, c.seal_text-ended.ensures.ended, c.tell_ended.ensures)
