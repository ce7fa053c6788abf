-- The lines so far were met and answered.
use Rattle.std.proofs.Common.{◌+◌, ◌-◌, length}
use Rattle.rc_serve.proofs.Serving.{GoesOn}
use Rattle.rc_serve.proofs.kept_sessions.serve_kept.Given as goal

abbrev pub invariant-loop-next : goal.invariant-loop-next
invariant-loop-next g l =
    GoesOn (record {
      workers = l.executor.workers;
      answers = g.G.Gate.answers l.executor.gate.now;
      gives = g.G.Gate.gives l.executor.gate.now;
      remaining = g.R.Read.remaining;
      contents = g.W.Write.contents;
      keeps = g.K.Keeper.keeps;
      failed = g.K.Keeper.failed;
      fails = g.K.Keeper.fails;
    }) (record {
      reader = l.initial.reader;
      writer = l.initial.writer;
      keeper = l.initial.keeper;
      session = l.initial.session;
    }) (record {
      reader = l.reader;
      writer = l.writer;
      keeper = l.keeper;
      session = l.session;
    }) l.lines

-- what is held and what may still be read
abbrev pub decreases-loop-next : goal.decreases-loop-next
decreases-loop-next g l = length l.lines.pending + (16777217 - l.lines.taken)
