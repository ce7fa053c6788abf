use Rattle.rc_launch.proofs.CrashedUpdates.{change_taken}
use Rattle.rc_launch.proofs.PutTexts.{TextLaws}
use Rattle.rc_launch.proofs.crash_laws.crashed_changes_are_taken_back.Goals as goal

pub returns : goal.returns
returns c d line new ask events report keeping marked bytes kept writes g end stands goes does run
    is_kept writing crash ends =
    let texts : TextLaws = record {
      whole = c.text_is_unique.ensures.value;
      base = c.spelling_is_unique.ensures.value;
      live = c.text_is_unique-2.ensures.value;
    } in
    change_taken (record {
      crash = record {
        ends = record { texts = texts; empty = c.empty_logs_are_at_rest.ensures };
        line = c.spelling_is_unique-2.ensures.value;
        said = c.lines_say_one_thing.ensures;
        crashes = c.crashes_leave_one_line.ensures;
      };
      undo = record {
        texts = texts;
        line = c.spelling_is_unique-2.ensures.value;
        new = c.lines_are_texts.ensures.new;
      };
    }) d line new ask events report keeping marked bytes kept writes g end stands goes does run
    is_kept writing crash ends
