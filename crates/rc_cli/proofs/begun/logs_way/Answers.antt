use Rattle.std.proofs.Common.{ℕ, List}
use Rattle.std.proofs.lemmas.Result.{IfOk-weaker}
use Rattle.rc_cli.proofs.BegunLemmas.{behind_once}
use Rattle.rc_cli.specs.Begun.{SaysWay}
use Rattle.rc_cli.proofs.begun.logs_way.Goals as goal

pub returns : goal.returns
returns c =
    IfOk-weaker c.says_way.result _ _
    (λ answer says. behind_once (λ (b : List ℕ). SaysWay b) c.args.file.now c.args.log.now
    c.in-Some.rest.now answer c.in-Some.ensures says)
    c.says_way.ensures
