use Rattle.rc_historytext.proofs.Moving.{replaced, replaced_last, replaced_first, replaced_alone}
use Rattle.rc_historytext.proofs.move_laws.commands_replace_sessions.Goals as goal

pub returns : goal.returns
returns c = record {
  all = replaced;
  no_later = replaced_last;
  no_earlier = replaced_first;
  alone = replaced_alone;
}
