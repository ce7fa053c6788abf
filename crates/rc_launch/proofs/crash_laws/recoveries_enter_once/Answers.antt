use Rattle.rc_launch.proofs.HistoryEnds.{enters_once}
use Rattle.rc_launch.proofs.crash_laws.recoveries_enter_once.Goals as goal

pub returns : goal.returns
returns c d session f end has ends = enters_once (record {
  texts = record {
    whole = c.text_is_unique.ensures.value;
    base = c.spelling_is_unique.ensures.value;
    live = c.text_is_unique-2.ensures.value;
  };
  empty = c.empty_logs_are_at_rest.ensures;
}) d session f has end ends
