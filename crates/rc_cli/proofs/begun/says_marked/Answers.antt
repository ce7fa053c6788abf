use Rattle.std.proofs.Common.{sym}
use Rattle.rc_script.specs.RunLines.{step_mark}
use Rattle.rc_cli.proofs.BegunLemmas.{is_behind, marked_behind, none_marked}
use Rattle.rc_cli.proofs.begun.says_marked.Goals as goal

pub returns-in_default : goal.returns-in_default
returns-in_default c = (
  λ no. let wrong = no in cc,
  λ says. absurd (none_marked c.args.bytes.now c.in_default.ensures.none says),
)

pub returns : goal.returns
returns c =
    marked_behind c.args.bytes.now c.in-Some._line.now c.in-Some.rest.now c.is_some.result
    c.in-Some.ensures.line
    (is_behind c.behind.result c.is_some.result step_mark c.in-Some.rest.now c.is_some.ensures
    (rw c.as_bytes.ensures.value at c.behind.ensures))
