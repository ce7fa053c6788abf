use Rattle.rc_launch.proofs.CrashedWays.{way_end}
use Rattle.rc_launch.proofs.crash_laws.crashed_ways_go_by_steps.Goals as goal

pub returns : goal.returns
returns c on bytes next writes g end w crash ends = way_end (record {
  ends = record {
    texts = record {
      whole = c.text_is_unique.ensures.value;
      base = c.spelling_is_unique.ensures.value;
      live = c.text_is_unique-2.ensures.value;
    };
    empty = c.empty_logs_are_at_rest.ensures;
  };
  line = c.spelling_is_unique-2.ensures.value;
  said = c.lines_say_one_thing.ensures;
  crashes = c.crashes_leave_one_line.ensures;
}) on bytes g end ends next writes w crash
