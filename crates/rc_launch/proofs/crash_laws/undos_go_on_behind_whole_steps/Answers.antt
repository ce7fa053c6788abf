use Rattle.rc_launch.proofs.CrashedWays.{leads_on}
use Rattle.rc_launch.proofs.crash_laws.undos_go_on_behind_whole_steps.Goals as goal

pub returns : goal.returns
returns c place bytes between n restores first = leads_on place bytes between n restores first
