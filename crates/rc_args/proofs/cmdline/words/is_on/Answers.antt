use Rattle.std.proofs.Common.{Some, None, ◌∙◌}
use Rattle.rc_args.proofs.WordsLemmas.{flag_found}
use Rattle.rc_args.proofs.cmdline.words.is_on.Goals as goal

pub returns-in-Some : goal.returns-in-Some
returns-in-Some c =
    c.eq.ensures ∙ flag_found c.args.matches.now c.args.id.now (Some c.in-Some.value.now)
    c.in-Some.ensures

pub returns-in-None : goal.returns-in-None
returns-in-None c = flag_found c.args.matches.now c.args.id.now None c.in-None.ensures
