use Rattle.rc_recovery.proofs.Resting.{empty_rests}
use Rattle.rc_recovery.proofs.crash.laws.empty_logs_are_at_rest.Goals as goal

pub returns : goal.returns
returns c = λ d file. empty_rests (record {
  one = c.scripts_give_one_list.ensures.value;
  right = c.scripts_give_one_list.ensures.fault;
}) d file
