use Rattle.rc_launch.proofs.CrashedUpdates.{UpdateLaws, update_taken}
use Rattle.rc_launch.proofs.PutTexts.{TextLaws}
use Rattle.rc_launch.proofs.crash_laws.crashed_updates_are_taken_back.Goals as goal

pub returns : goal.returns
returns c list d bytes next h marks writes g end distinct is gives goes w crash ends =
    let texts : TextLaws = record {
      whole = c.text_is_unique.ensures.value;
      base = c.spelling_is_unique.ensures.value;
      live = c.text_is_unique-2.ensures.value;
    } in
    let laws : UpdateLaws = record {
      change = record {
        crash = record {
          ends = record { texts = texts; empty = c.empty_logs_are_at_rest.ensures };
          line = c.spelling_is_unique-2.ensures.value;
          said = c.lines_say_one_thing.ensures;
          crashes = c.crashes_leave_one_line.ensures;
        };
        undo = record {
          texts = texts;
          line = c.spelling_is_unique-2.ensures.value;
          new = c.lines_are_texts.ensures.new;
        };
      };
      carried = c.updates_of_texts_are_updates.ensures.carried;
      done = c.updates_of_texts_are_updates.ensures.done;
      travels = c.travels_undo_and_redo.ensures.undo;
      taken = c.one_undo_takes_an_update_back.ensures;
    } in
    update_taken laws list d bytes next h marks distinct is gives goes writes g end w ends crash
