use Rattle.std.proofs.Common.{◌∙◌, ap, codes, sym}
use Rattle.std.specs.Str.{bytes_eq}
use Rattle.rc_cli.proofs.FailureLemmas.{front_cut, no_front}
use Rattle.rc_cli.proofs.shown_failures.is_cut_short.Goals as goal

pub returns-in-Some : goal.returns-in-Some
returns-in-Some c =
    let failure = c.args.failure.now in
    c.is.ensures ∙ ap (bytes_eq failure.outcome.now) c.in-Some.ensures.cases.1
    ∙ front_cut failure.front.now failure.outcome.now (codes "cut-short")
    c.in-Some.ensures.cases.0

pub returns-in-None : goal.returns-in-None
returns-in-None c =
    let failure = c.args.failure.now in
    sym (no_front failure.front.now failure.outcome.now (codes "cut-short")
    c.in-None.ensures.cases)
