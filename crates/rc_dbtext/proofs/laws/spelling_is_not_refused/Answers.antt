use Rattle.rc_dbtext.proofs.Lawful.{FormLaws, never_at_front, never_whole}
use Rattle.rc_dbtext.proofs.laws.spelling_is_not_refused.Goals as goal

pub returns-clause-front : goal.returns-clause-front
returns-clause-front c d rest fault is can found =
    let laws : FormLaws = record {
      front = c.text_is_unique.ensures.front;
      value = c.text_is_unique.ensures.value;
      refused = c.text_is_not_refused.ensures;
    } in
    never_at_front laws d is can rest fault found

pub returns-clause-whole : goal.returns-clause-whole
returns-clause-whole c d fault is can found =
    let laws : FormLaws = record {
      front = c.text_is_unique.ensures.front;
      value = c.text_is_unique.ensures.value;
      refused = c.text_is_not_refused.ensures;
    } in
    never_whole laws d is can fault found
