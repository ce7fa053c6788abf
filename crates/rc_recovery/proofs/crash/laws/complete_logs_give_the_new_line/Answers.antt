use Rattle.rc_recovery.proofs.Alike.{complete}
use Rattle.rc_recovery.proofs.crash.laws.complete_logs_give_the_new_line.Goals as goal

pub returns : goal.returns
returns c = λ d line new end command report first more does all after.
    complete c.what_is_known_to_be_up_is_live.ensures.ends
    c.what_is_known_to_be_up_is_live.ensures.stop c.stops_need_no_line.ensures.live
    d line new end command report first more does all after
