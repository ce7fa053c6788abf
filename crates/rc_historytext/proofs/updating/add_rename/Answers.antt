use Rattle.std.proofs.Common.{subst, sym, All}
use Rattle.std.proofs.lemmas.List.Elements.{All-push}
use Rattle.std.proofs.lemmas.Result.{err_from_is_err_and}
use Rattle.rc_update.specs.Conversions.{conversion_of}
use Rattle.rc_historytext.specs.Text.{IsRename}
use Rattle.rc_historytext.proofs.Failing.{no_rename}
use Rattle.rc_historytext.proofs.updating.add_rename.Goals as goal

pub returns-in-Ok-clause-each : goal.returns-in-Ok-clause-each
returns-in-Ok-clause-each c each =
    subst (All IsRename) (sym c.in-Ok.ensures.items)
    (All-push IsRename c.args.renames.now.items c.in_ok-rename.rename each
    c.in_ok-rename.ensures.is)

pub returns-in_err-rename-clause-fault : goal.returns-in_err-rename-clause-fault
returns-in_err-rename-clause-fault c =
    let p = err_from_is_err_and c.from_residual.result c.from_residual.ensures.1 in
    rw (p.1, p.2)
    (no_rename (conversion_of c.args.one) c.in_err-rename.field-0.0 c.if-one.false
    c.in_err-rename.ensures.fault)
