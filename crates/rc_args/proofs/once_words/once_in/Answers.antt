use Rattle.std.proofs.Common.{◌≡◌, ◌∙◌, false, refl, sym, true}
use Rattle.rc_args.proofs.once_words.once_in.Goals as goal

pub returns-clause-asked : goal.returns-clause-asked
returns-clause-asked c = (
  c.in_ok-once.ensures.asked.1,
  c.in_ok-to.ensures.asked,
  c.in_ok-session.ensures.asked,
  c.if-not-are_one_line.ensures.0 refl,
  (λ lacks.
      let both : false ≡ true = sym c.if-lacks_names.false ∙ c.lacks_names.ensures.1 lacks in cc),
)
