use Rattle.std.proofs.Common.{◌∙◌, ◌∷◌, [], ◌++◌, ℕ, List, false, ap, rules}
use Rattle.std.proofs.lemmas.Result.{IfOk-weaker}
use Rattle.rc_historytext.specs.Text.{GenerationText, RenameText, history_text}
use Rattle.rc_historytext.proofs.Presents.{first_kept, first_stands}
use Rattle.rc_historytext.proofs.updating.new_history.Goals as goal

-- the text of a history of these generations
of_all : List GenerationText → List ℕ
of_all gs = history_text (record { present = 0; generations = gs })

-- a generation whose states are stops
by_renames : (database session : List ℕ) → List RenameText → GenerationText
by_renames database session renames = record {
  first_passed = false;
  last_passed = false;
  database = database;
  session = session;
  renames = renames;
}

pub returns-clause-ok : goal.returns-clause-ok
unfolding of_all by_renames
returns-clause-ok c =
    let database = c.args.database.now in
    let session = c.args.session.now in
    IfOk-weaker c.written.result _ _
    (λ text written. (
      first_kept database session (search rules) (search rules),
      written
          ∙ ap of_all
          (c.in_ok-push.ensures.ok
          ∙ ap (λ (gs : List GenerationText).
          gs ++ by_renames database session c.new.result.items ∷ []) c.new-generations.ensures.items
          ∙ ap (λ (rs : List RenameText). by_renames database session rs ∷ []) c.new.ensures.items),
    ))
    c.written.ensures.ok

pub returns-clause-present : goal.returns-clause-present
returns-clause-present c =
    let database = c.args.database.now in
    let session = c.args.session.now in
    IfOk-weaker c.written.result _ _
    (λ text begun. first_stands database session text.items begun) (returns-clause-ok c)
