use Rattle.std.proofs.Common.{◌∙◌, refl, sym, codes}
use Rattle.clap.specs.Matches.{found_of}
use Rattle.clap.specs.Words.{rows_of}
use Rattle.rc_select.specs.Ask.{ask_of}
use Rattle.rc_args.proofs.OnceLemmas.{limit_found, limit_none, unlimited}
use Rattle.rc_args.proofs.once_words.change_in.Goals as goal

pub returns-in_default-clause-wrong : goal.returns-in_default-clause-wrong
returns-in_default-clause-wrong c =
    λ _. limit_none (codes "change") c.args.flag.now c.args.matches.now _ refl refl
    refl refl refl refl
    c.get_str.ensures c.in_default.ensures.none

pub returns-then-is_on-clause-asked : goal.returns-then-is_on-clause-asked
returns-then-is_on-clause-asked c = (
  refl,
  (
    sym c.is_on.ensures ∙ c.if-is_on.true,
    (
      unlimited c.args.flag.now (rows_of (found_of c.args.matches.now))
          (ask_of c.in_ok-request.request)
          c.in_ok-request.ensures.asked,
      limit_found c.args.matches.now _ c.in-Some.limit c.get_str.ensures c.in-Some.ensures.some,
    ),
  ),
)

pub returns-clause-asked : goal.returns-clause-asked
returns-clause-asked c = (
  refl,
  (
    sym c.is_on.ensures ∙ c.if-is_on.false,
    refl,
    (
      unlimited c.args.flag.now (rows_of (found_of c.args.matches.now))
          (ask_of c.in_ok-request.request)
          c.in_ok-request.ensures.asked,
      limit_found c.args.matches.now _ c.in-Some.limit c.get_str.ensures c.in-Some.ensures.some,
    ),
  ),
)
