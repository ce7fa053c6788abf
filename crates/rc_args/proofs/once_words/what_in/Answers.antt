use Rattle.std.proofs.Common.{◌∙◌}
use Rattle.std.proofs.lemmas.Result.{IfOk-weaker}
use Rattle.rc_args.proofs.once_words.what_in.Goals as goal

pub returns-in-undo-clause-asked : goal.returns-in-undo-clause-asked
returns-in-undo-clause-asked c =
    IfOk-weaker c.undo_in.result _ _
    (λ once asks. let said = asks c.args.meaning.flag.now in (c.in-undo.is ∙ said.0, said.1))
    c.undo_in.ensures.asked

pub returns-in-redo-clause-asked : goal.returns-in-redo-clause-asked
returns-in-redo-clause-asked c =
    IfOk-weaker c.redo_in.result _ _
    (λ once asks. let said = asks c.args.meaning.flag.now in (c.in-redo.is ∙ said.0, said.1))
    c.redo_in.ensures.asked

pub returns-in-add-clause-asked : goal.returns-in-add-clause-asked
returns-in-add-clause-asked c =
    IfOk-weaker c.add_in.result _ _
    (λ once asks. let said = asks c.args.meaning.flag.now in (c.in-add.is ∙ said.0, said.1))
    c.add_in.ensures.asked

pub returns-in-delete-clause-asked : goal.returns-in-delete-clause-asked
returns-in-delete-clause-asked c =
    IfOk-weaker c.delete_in.result _ _
    (λ once asks. let said = asks c.args.meaning.flag.now in (c.in-delete.is ∙ said.0, said.1))
    c.delete_in.ensures.asked

pub returns-in-live-clause-asked : goal.returns-in-live-clause-asked
returns-in-live-clause-asked c =
    let said = c.live_in.ensures c.args.meaning.flag.now in (c.in-live.is ∙ said.0, said.1)

pub returns-in-restart-clause-asked : goal.returns-in-restart-clause-asked
returns-in-restart-clause-asked c =
    IfOk-weaker c.dry_restart_in.result _ _
    (λ once asks. let said = asks c.args.meaning.flag.now in (c.in-restart.is ∙ said.0, said.1))
    c.dry_restart_in.ensures.asked
