use Rattle.rc_recovery.proofs.Crashing.{crashed}
use Rattle.rc_recovery.proofs.crash.laws.crashes_leave_one_line.Goals as goal

pub returns : goal.returns
returns c = λ d line new l f g crash. crashed (record {
  scripts = record {
    one = c.scripts_give_one_list.ensures.value;
    right = c.scripts_give_one_list.ensures.fault;
  };
  apart = c.spelling_is_unique.ensures.front;
  one_line = c.spelling_is_unique.ensures.value;
  readable = c.spelling_is_not_refused.ensures.new;
  one_answer = c.answers_are_one.ensures.one;
  keeps = c.commands_keep_lines.ensures.one;
  not_refused = c.cut_commands_are_entered.ensures;
  runs = c.cut_runs_are_settled.ensures.run;
}) d line new l f g crash
