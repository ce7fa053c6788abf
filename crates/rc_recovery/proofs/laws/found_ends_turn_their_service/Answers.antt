use Rattle.rc_recovery.proofs.Found.{others, turned}
use Rattle.rc_recovery.proofs.laws.found_ends_turn_their_service.Goals as goal

pub returns-clause-turned : goal.returns-clause-turned
returns-clause-turned _ c events w s run held = turned c events w s run held

pub returns-clause-others : goal.returns-clause-others
returns-clause-others _ c events w s t other = others c events w s t other
