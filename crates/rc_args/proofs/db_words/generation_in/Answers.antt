use Rattle.rc_args.proofs.DbAskedLemmas.{named_as, unnamed_as}
use Rattle.rc_args.proofs.db_words.generation_in.Goals as goal

pub returns-clause-asked : goal.returns-clause-asked
returns-clause-asked c =
    named_as c.generation_of.result _ _ _ _ c.text_in-given.ensures c.text_in-live.ensures
    c.generation_of.ensures.asked

pub returns-clause-wrong : goal.returns-clause-wrong
returns-clause-wrong c =
    unnamed_as c.generation_of.result _ _ _ _ c.text_in-given.ensures c.text_in-live.ensures
    c.generation_of.ensures.wrong
