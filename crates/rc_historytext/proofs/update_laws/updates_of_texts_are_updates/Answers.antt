use Rattle.rc_historytext.proofs.UpdatedBorders.{UpdateLaws}
use Rattle.rc_historytext.proofs.UpdatedWhole.{carries, updates}
use Rattle.rc_historytext.proofs.update_laws.updates_of_texts_are_updates.Goals as goal

pub returns : goal.returns
returns c =
    let laws : UpdateLaws = record {
      ways = record {
        database = c.spelling_is_unique.ensures.value;
        line = c.spelling_is_unique-2.ensures.value;
        texts = record {
          once = c.text_is_unique.ensures.value;
          new = c.lines_are_texts.ensures.new;
          old = c.lines_are_texts.ensures.old;
        };
        on = c.crossing_keeps_histories.ensures.on;
        back = c.crossing_keeps_histories.ensures.back;
        inside = c.commands_keep_histories.ensures;
      };
      enters = c.updates_enter_behind.ensures;
      drops = c.drops_keep_histories.ensures;
      decided = c.services_go_on_unaltered_or_not.ensures;
    } in
    record {
      carried = λ list d bytes next h marks distinct is gives goes u.
          carries laws list d bytes h marks distinct is gives goes next u;
      done = λ list d bytes next h marks distinct is gives goes u.
          updates laws list d bytes h marks distinct is gives goes next u;
    }
