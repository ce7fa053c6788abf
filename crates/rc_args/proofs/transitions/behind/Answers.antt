use Rattle.std.proofs.Common.{◌≡◌, ◌==◌, None, Some, length, true, ap, sym, ◌∙◌}
use Rattle.std.proofs.lemmas.Bool.{true≢false}
use Rattle.std.proofs.lemmas.Bool.Decides.{Decides-eqb}
use Rattle.std.proofs.lemmas.Slice.Eq.{strip_prefix_is}
use Rattle.rc_args.proofs.transitions.behind.Goals as goal

pub returns-else-is_empty-clause-some : goal.returns-else-is_empty-clause-some
returns-else-is_empty-clause-some c =
    let rest = c.in-Some.rest in (
      strip_prefix_is Decides-eqb c.args.word.now c.args.front.now (Some rest)
          c.in-Some.ensures.cases,
      λ none. let bare : (length rest.now == 0) ≡ true = ap (λ r. length r == 0) none in
          true≢false (sym bare ∙ (sym c.is_empty.ensures ∙ c.if-is_empty.false)),
    )

pub returns-in-None-clause-none : goal.returns-in-None-clause-none
returns-in-None-clause-none c =
    λ rest is. absurd
    (strip_prefix_is Decides-eqb c.args.word.now c.args.front.now None c.in-None.ensures.cases rest
    is)
