use Rattle.std.proofs.Common.{map, string_bytes}
use Rattle.std.proofs.lemmas.Result.{IfOk-weaker}
use Rattle.rc_serve.specs.Ending.{IsDoneAs}
use Rattle.rc_script.specs.Says.{saying_of}
use Rattle.rc_streams.specs.Noting.{inner_of}
use Rattle.rc_cli.proofs.StrayingLemmas.{lowers_said}
use Rattle.rc_cli.proofs.straying.lower_in.Goals as goal

pub returns-clause-ended : goal.returns-clause-ended
returns-clause-ended g c =
    IfOk-weaker c.answer_once-ended.result _ _
    (λ ending ended. lowers_said
    (IsDoneAs c.args.request.now.workers (g.G.Gate.answers c.args.gate.now)
    (g.G.Gate.gives c.args.gate.now)) ending (map string_bytes c.args.strays.now)
    (map string_bytes c.in-Ok.names.items) (saying_of c.step_line-line.result)
    (g.W.Write.contents (inner_of c.args.writer.now))
    (g.W.Write.contents (inner_of c.answer_once-ended.new.writer)) c.args.session.now
    c.answer_once-ended.new.session c.step_line-line.ensures.says c.in-Ok.ensures ended)
    c.answer_once-ended.ensures.ended
