use Rattle.std.proofs.Common.{ℕ, List}
use Rattle.rc_cli.proofs.BegunLemmas.{behind_once}
use Rattle.rc_cli.specs.Begun.{SaysMarked}
use Rattle.rc_cli.proofs.begun.logs_step.Goals as goal

pub returns : goal.returns
returns c =
    behind_once (λ (b : List ℕ). SaysMarked b) c.args.file.now c.args.log.now c.in-Some.rest.now
    c.says_marked.result c.in-Some.ensures c.says_marked.ensures
