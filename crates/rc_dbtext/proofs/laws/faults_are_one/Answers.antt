use Rattle.rc_dbtext.proofs.Lawful.{FormLaws}
use Rattle.rc_dbtext.proofs.OneFault.{one_at_front, one_of_whole}
use Rattle.rc_dbtext.proofs.laws.faults_are_one.Goals as goal

pub returns-clause-front : goal.returns-clause-front
returns-clause-front c bytes a b of_a of_b not_a not_b =
    let laws : FormLaws = record {
      front = c.text_is_unique.ensures.front;
      value = c.text_is_unique.ensures.value;
      refused = c.text_is_not_refused.ensures;
    } in
    one_at_front laws c.refusals_are_one.ensures bytes a b of_a of_b not_a not_b

pub returns-clause-whole : goal.returns-clause-whole
returns-clause-whole c bytes a b of_a of_b not_a not_b =
    let laws : FormLaws = record {
      front = c.text_is_unique.ensures.front;
      value = c.text_is_unique.ensures.value;
      refused = c.text_is_not_refused.ensures;
    } in
    one_of_whole laws c.refusals_are_one.ensures bytes a b of_a of_b not_a not_b
