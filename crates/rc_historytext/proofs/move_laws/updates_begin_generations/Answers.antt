use Rattle.rc_historytext.proofs.Moving.{begins, begins_full}
use Rattle.rc_historytext.proofs.move_laws.updates_begin_generations.Goals as goal

pub returns : goal.returns
returns c = record { room = begins; full = begins_full }
