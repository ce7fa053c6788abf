use Rattle.rc_historytext.proofs.Moving.{oldest_goes, later_go}
use Rattle.rc_historytext.proofs.move_laws.ends_are_dropped.Goals as goal

pub returns : goal.returns
returns c = record { oldest = oldest_goes; later = later_go }
