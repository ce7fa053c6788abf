use Rattle.rc_recovery.proofs.Order.{reordered_begins}
use Rattle.rc_recovery.proofs.crash.laws.logged_events_begin_a_run.Goals as goal

pub returns : goal.returns
returns c = λ d line command start plan deadline trace steps events rest task run are.
    reordered_begins c.logs_may_be_reordered.ensures.run c.stops_need_no_line.ensures.run
    d line command start plan deadline trace steps events rest task run are
