use Rattle.rc_args.proofs.update_words.update_in.Goals as goal

pub returns-clause-asked : goal.returns-clause-asked
returns-clause-asked c = record {
  session = c.in_ok-session.ensures.asked;
  new = c.text_in.ensures;
  renames = c.text_in-2.ensures;
  conversions = c.in_ok-conversions.ensures;
  dry = c.is_on.ensures;
}
