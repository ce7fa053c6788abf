use Rattle.std.proofs.Common.{◌≡◌, take}
use Rattle.rc_model.specs.Run.{IsRun}
use Rattle.rc_session.proofs.replay.make_all.Given as goal

abbrev pub invariant-loop-place : goal.invariant-loop-place
invariant-loop-place l =
    (l.run ≡ record { course = l.fn.run.course; events = take l.place l.events })
    × IsRun l.fn.run.course (take l.place l.events)
