use Rattle.rc_historytext.proofs.Moving.{goes_back, goes_on}
use Rattle.rc_historytext.proofs.move_laws.borders_are_crossed.Goals as goal

pub returns : goal.returns
returns c = record { back = goes_back; on = goes_on }
