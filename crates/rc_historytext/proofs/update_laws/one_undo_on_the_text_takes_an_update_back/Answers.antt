use Rattle.std.proofs.Common.{ℕ, inl, inr, subst}
use Rattle.rc_history.specs.Stops.{ArePassed}
use Rattle.rc_historytext.specs.Updates.{GivesUpdated}
use Rattle.rc_historytext.proofs.UpdatedBegins.{places_once}
use Rattle.rc_historytext.proofs.update_laws.one_undo_on_the_text_takes_an_update_back.Goals as goal

pub returns : goal.returns
returns c list d bytes next back h marks distinct is gives goes u travels =
    let after : GivesUpdated list d h next = elim u [
      | inl done ↦
          c.updates_of_texts_are_updates.ensures.done list d bytes next h marks distinct is gives
          goes done
      | inr carried ↦
          c.updates_of_texts_are_updates.ensures.carried list d bytes next h marks distinct is
          gives goes carried
    ] in
    let undone = c.travels_undo_and_redo.ensures.undo next back after.new after.marks after.is
    after.gives travels in
    let law = c.one_undo_takes_an_update_back.ensures h is list d after.new after.update in
    let number =
    places_once h list d after.new after.update after.number law.0 after.adds law.1 in (
      undone.0,
      after.marks,
      undone.1,
      undone.2,
      law.4 after.marks undone.0
          (subst (λ (n : ℕ). ArePassed after.marks after.new n) number after.passed) undone.3,
    )
