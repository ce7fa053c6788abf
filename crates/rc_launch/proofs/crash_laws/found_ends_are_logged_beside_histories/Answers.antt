use Rattle.std.proofs.Common.{◌∷◌, [], ◌++◌}
use Rattle.rc_model.specs.declared.Event.TheVariants.{Done}
use Rattle.rc_model.specs.declared.Outcome.TheVariants as outcome
use Rattle.rc_livetext.specs.Spelling.{spelling}
use Rattle.rc_launch.specs.HistoryRecoveries.{beside}
use Rattle.rc_launch.proofs.HistoryCrashed.{more_logged}
use Rattle.rc_launch.proofs.crash_laws.found_ends_are_logged_beside_histories.Goals as goal

pub returns : goal.returns
returns c d line new keeping l kept events w s text f g crash file holds whole held is =
    more_logged d line new keeping l kept (events ++ Done w s outcome.Ok ∷ []) text f g crash file
    (λ alone. c.found_ends_are_logged_ends.ensures d line new l events w s text
    (beside (spelling d line) f) (beside (spelling d line) g) alone holds whole held is)
