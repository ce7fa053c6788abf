use Rattle.rc_historytext.proofs.TravelledSteps.{Laws}
use Rattle.rc_historytext.proofs.TravelledStops.{travels_back, travels_on}
use Rattle.rc_historytext.proofs.HaltedSteps.{halts_back, halts_on}
use Rattle.rc_historytext.proofs.travel_laws.travels_undo_and_redo.Goals as goal

pub returns : goal.returns
returns c =
    let laws : Laws = record {
      database = c.spelling_is_unique.ensures.value;
      line = c.spelling_is_unique-2.ensures.value;
      texts = record {
        once = c.text_is_unique.ensures.value;
        new = c.lines_are_texts.ensures.new;
        old = c.lines_are_texts.ensures.old;
      };
      on = c.crossing_keeps_histories.ensures.on;
      back = c.crossing_keeps_histories.ensures.back;
      inside = c.commands_keep_histories.ensures;
    } in
    record {
      undo = travels_back laws;
      redo = travels_on laws;
      undo_left = halts_back laws;
      redo_left = halts_on laws;
    }
