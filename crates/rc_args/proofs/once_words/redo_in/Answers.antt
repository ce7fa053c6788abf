use Rattle.std.proofs.Common.{◌∙◌, refl, sym, codes}
use Rattle.rc_args.proofs.OnceLemmas.{limit_found, limit_none}
use Rattle.rc_args.proofs.once_words.redo_in.Goals as goal

pub returns-in_default-clause-wrong : goal.returns-in_default-clause-wrong
returns-in_default-clause-wrong c =
    λ _ flag. limit_none (codes "redo") flag c.args.matches.now _ refl refl refl refl refl refl
    c.get_str.ensures c.in_default.ensures.none

pub returns-then-is_on-clause-asked : goal.returns-then-is_on-clause-asked
returns-then-is_on-clause-asked c = λ flag. (
  refl,
  (
    sym c.is_on.ensures ∙ c.if-is_on.true,
    (
      c.in-Some.limit,
      limit_found c.args.matches.now _ c.in-Some.limit c.get_str.ensures
          c.in-Some.ensures.some,
    ),
  ),
)

pub returns-clause-asked : goal.returns-clause-asked
returns-clause-asked c = λ flag. (
  refl,
  (
    sym c.is_on.ensures ∙ c.if-is_on.false,
    refl,
    limit_found c.args.matches.now _ c.in-Some.limit c.get_str.ensures c.in-Some.ensures.some,
  ),
)
