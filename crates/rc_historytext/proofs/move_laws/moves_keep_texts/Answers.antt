use Rattle.rc_historytext.proofs.Kept.{back_kept, on_kept, later_kept, earlier_kept, oldest_kept}
use Rattle.rc_historytext.proofs.Kept.{session_kept, begun_kept}
use Rattle.rc_historytext.proofs.move_laws.moves_keep_texts.Goals as goal

pub returns : goal.returns
returns c = record {
  back = back_kept;
  on = on_kept;
  later = later_kept;
  earlier = earlier_kept;
  oldest = oldest_kept;
  session = session_kept;
  begun = begun_kept;
}
