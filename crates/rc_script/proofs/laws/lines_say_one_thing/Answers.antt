use Rattle.rc_script.proofs.Sayings.{line_once}
use Rattle.rc_script.proofs.laws.lines_say_one_thing.Goals as goal

pub returns : goal.returns
returns c = line_once
