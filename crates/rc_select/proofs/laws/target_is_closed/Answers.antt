use Rattle.rc_model.specs.Names.{Has}
use Rattle.rc_model.specs.Plan.{IsEssentialUp, IsWanted}
use Rattle.rc_select.proofs.TargetLemmas.{target_closed}
use Rattle.rc_select.proofs.laws.target_is_closed.Goals as goal

pub returns : goal.returns
returns c d table up ask closed =
    target_closed d.needs (Has up) (IsEssentialUp d (Has up)) (IsWanted d.names table (Has up) ask)
    ask.mode ask.prune closed
