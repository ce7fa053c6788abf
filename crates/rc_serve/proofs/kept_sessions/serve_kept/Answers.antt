-- A whole session: `serve_kept` reads lines until the input ends or a fault comes. Its loop keeps
-- `GoesOn`: the lines before were met, kept and answered. Each turn of the loop ends in one of five
-- ways, and each answer names the lemma for that way. This is hard because a fault may come before,
-- within or after a line, and all clauses must still tell what was read, done, kept and written.
use Rattle.std.proofs.Common.{false, true}
use Rattle.rc_streams.specs.Noting.{inner_of}
use Rattle.rc_script.specs.Says.{saying_of}
use Rattle.rc_serve.proofs.Serving.{line_answered, line_broken, line_unread, none_left}
use Rattle.rc_serve.proofs.Serving.{session_begins, session_breaks, session_ends, session_goes_on}
use Rattle.rc_serve.proofs.Serving.{session_refused}
use Rattle.rc_serve.proofs.Turns.{not_so, said_less, told_on}
use Rattle.rc_serve.proofs.kept_sessions.serve_kept.Goals as goal

pub returns-then-not-is_crew : goal.returns-then-not-is_crew
returns-then-not-is_crew g c =
    session_refused (record {
      workers = c.args.executor.now.workers;
      answers = g.G.Gate.answers c.args.executor.now.gate.now;
      gives = g.G.Gate.gives c.args.executor.now.gate.now;
      remaining = g.R.Read.remaining;
      contents = g.W.Write.contents;
      keeps = g.K.Keeper.keeps;
      failed = g.K.Keeper.failed;
      fails = g.K.Keeper.fails;
    }) (record {
      reader = c.args.reader.now;
      writer = c.args.writer.now;
      keeper = c.args.keeper.now;
      session = c.args.session.now;
    }) c.db.ensures.database c.journal.ensures.states
    (λ crew. not_so c.is_crew.result c.if-not-is_crew.true (c.is_crew.ensures.1 crew))
    c.requires.reader c.requires.closed

pub loop-next-init : goal.loop-next-init
loop-next-init g c =
    session_begins c.db.ensures.database c.journal.ensures.states
    (c.is_crew.ensures.0 c.if-not-is_crew.false) c.requires.reader c.requires.writer
    c.requires.closed c.new-lines.ensures

pub loop-next-preserved : goal.loop-next-preserved
loop-next-preserved g c =
    session_goes_on c.loop-next.invariant (line_answered (record {
      reader = c.next_said.new.reader;
      writer = c.answer_once-ended.new.writer;
      keeper = c.answer_once-ended.new.keeper;
      session = c.answer_once-ended.new.session;
    }) c.next_said.new.lines c.in-Ok-Some.next.1 (saying_of c.in-Ok-Some.next.0)
    (rw c.in-Ok-Some.field-0-is at c.in-Ok-Some.ensures.said) c.next_said.ensures.within
    c.in-Ok-Some.ensures.sound c.answer_once-ended.ensures.unaltered
    c.answer_once-ended.ensures.stays c.in-Ok.field-0 true c.if-not-ends.false
    c.in-Ok.ensures.ended c.in-Ok.ensures.kept c.in-Ok.ensures.sound c.in-Ok.ensures.flushed
    c.in-Ok.ensures.whole)

pub loop-next-smaller : goal.loop-next-smaller
loop-next-smaller g c =
    said_less c.in-Ok-Some.next.1 (g.R.Read.remaining (inner_of c.loop-next.reader))
    (g.R.Read.remaining (inner_of c.next_said.new.reader)) c.loop-next.lines c.next_said.new.lines
    (saying_of c.in-Ok-Some.next.0)
    (rw c.in-Ok-Some.field-0-is at c.in-Ok-Some.ensures.said) c.if-not-ends.false
    c.next_said.ensures.within

pub returns-in-Ok-None : goal.returns-in-Ok-None
returns-in-Ok-None g c =
    session_ends c.loop-next.invariant (none_left c.next_said.new.reader c.next_said.new.lines
    (rw c.in-Ok-None.field-0-is at c.in-Ok-None.ensures.said) c.next_said.ensures.within
    c.in-Ok-None.ensures.sound c.loop-next.invariant.writes
    c.loop-next.invariant.serving.stays.1)

pub returns-then-not-ends : goal.returns-then-not-ends
returns-then-not-ends g c =
    session_ends c.loop-next.invariant (line_answered (record {
      reader = c.next_said.new.reader;
      writer = c.answer_once-ended.new.writer;
      keeper = c.answer_once-ended.new.keeper;
      session = c.answer_once-ended.new.session;
    }) c.next_said.new.lines c.in-Ok-Some.next.1 (saying_of c.in-Ok-Some.next.0)
    (rw c.in-Ok-Some.field-0-is at c.in-Ok-Some.ensures.said) c.next_said.ensures.within
    c.in-Ok-Some.ensures.sound c.answer_once-ended.ensures.unaltered
    c.answer_once-ended.ensures.stays c.in-Ok.field-0 false c.if-not-ends.true
    c.in-Ok.ensures.ended c.in-Ok.ensures.kept c.in-Ok.ensures.sound c.in-Ok.ensures.flushed
    c.in-Ok.ensures.whole)

pub returns-in-Err : goal.returns-in-Err
returns-in-Err g c =
    session_breaks c.loop-next.invariant (line_unread c.next_said.new.reader c.next_said.new.lines
    c.in-Err.ensures.fault c.next_said.ensures.within c.in-Err.ensures.device
    (λ failed. told_on c.next_said.result c.in-Err.fault c.in-Err.is
    (c.next_said.ensures.told failed)) c.loop-next.invariant.serving.stays.1)

pub returns-in-Err-ended : goal.returns-in-Err-ended
returns-in-Err-ended g c =
    session_breaks c.loop-next.invariant (line_broken (record {
      reader = c.next_said.new.reader;
      writer = c.answer_once-ended.new.writer;
      keeper = c.answer_once-ended.new.keeper;
      session = c.answer_once-ended.new.session;
    }) c.next_said.new.lines c.in-Ok-Some.next.1 (saying_of c.in-Ok-Some.next.0)
    (rw c.in-Ok-Some.field-0-is at c.in-Ok-Some.ensures.said) c.next_said.ensures.within
    c.in-Ok-Some.ensures.sound c.answer_once-ended.ensures.unaltered
    c.answer_once-ended.ensures.stays c.in-Err-ended.ensures.stopped c.in-Err-ended.ensures.fault
    c.in-Err-ended.ensures.flushed c.in-Err-ended.ensures.whole)
