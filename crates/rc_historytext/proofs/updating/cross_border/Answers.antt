use Rattle.std.proofs.lemmas.Result.{IfErr-weaker}
use Rattle.rc_historytext.proofs.Failing.{text_memory}
use Rattle.rc_historytext.proofs.updating.cross_border.Goals as goal

pub returns-clause-fault : goal.returns-clause-fault
returns-clause-fault c =
    IfErr-weaker c.written.result _ _ (λ fault is. text_memory c.args.history.now fault is)
    c.written.ensures.fault
