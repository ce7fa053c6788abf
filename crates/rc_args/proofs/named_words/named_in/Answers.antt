use Rattle.std.proofs.Common.{refl}
use Rattle.rc_args.proofs.named_words.named_in.Goals as goal

pub returns-clause-asked : goal.returns-clause-asked
returns-clause-asked c = record {
  session = c.in_ok-session.ensures.asked;
  names = c.in_ok-names.ensures;
  failed = c.is_on.ensures;
  repairs = c.is_on-2.ensures;
  one_line = c.if-not-are_one_line.ensures.0 refl;
}
