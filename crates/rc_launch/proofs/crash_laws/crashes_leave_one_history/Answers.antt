use Rattle.rc_launch.proofs.HistoryCrashed.{crashed}
use Rattle.rc_launch.proofs.crash_laws.crashes_leave_one_history.Goals as goal

pub returns : goal.returns
returns c d line new keeping l kept f g crash = crashed (record {
  ends = record {
    texts = record {
      whole = c.text_is_unique.ensures.value;
      base = c.spelling_is_unique.ensures.value;
      live = c.text_is_unique-2.ensures.value;
    };
    empty = c.empty_logs_are_at_rest.ensures;
  };
  line = c.spelling_is_unique-2.ensures.value;
  said = c.lines_say_one_thing.ensures;
  crashes = c.crashes_leave_one_line.ensures;
}) d line new keeping l kept f g crash
