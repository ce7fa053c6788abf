use Rattle.rc_recovery.proofs.Resting.{unlogged}
use Rattle.rc_recovery.proofs.crash.laws.unlogged_commands_leave_one_text.Goals as goal

pub returns : goal.returns
returns c = λ d old new text g crash ends. unlogged (record {
  one = c.scripts_give_one_list.ensures.value;
  right = c.scripts_give_one_list.ensures.fault;
}) d old new text g crash ends
