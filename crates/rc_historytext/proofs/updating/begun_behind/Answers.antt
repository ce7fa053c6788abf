use Rattle.std.proofs.Common.{◌∙◌, ap}
use Rattle.std.proofs.lemmas.Result.{IfErr-weaker, IfOk-weaker}
use Rattle.rc_historytext.specs.Text.{history_text}
use Rattle.rc_historytext.proofs.Kept.{begun_kept}
use Rattle.rc_historytext.proofs.Failing.{text_memory}
use Rattle.rc_historytext.proofs.updating.begun_behind.Goals as goal

pub returns-in-Ok-begin-clause-ok : goal.returns-in-Ok-begin-clause-ok
returns-in-Ok-begin-clause-ok c =
    let read = c.in-Ok.ensures.ok in
    IfOk-weaker c.written.result _ _
    (λ text written. (
      c.in-Ok.form,
      read.0,
      read.1,
      begun_kept c.in-Ok.form c.args.next read.0 c.requires,
      written ∙ ap history_text c.in-Ok-begin.ensures,
    ))
    c.written.ensures.ok

pub returns-in-Ok-begin-clause-fault : goal.returns-in-Ok-begin-clause-fault
returns-in-Ok-begin-clause-fault c =
    IfErr-weaker c.written.result _ _ (λ fault is. text_memory c.args.left.now fault is)
    c.written.ensures.fault
