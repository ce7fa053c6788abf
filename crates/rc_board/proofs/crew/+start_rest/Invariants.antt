use Rattle.rc_board.proofs.crew.+start_rest.Given as goal

abbrev pub decreases-start_rest : goal.decreases-start_rest
decreases-start_rest g l = l.worker
