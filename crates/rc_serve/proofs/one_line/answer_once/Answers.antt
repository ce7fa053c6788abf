-- The answer to one line. `answer_once` carries the line out, keeps what it altered, and writes the
-- answer. It ends in four ways: nothing was begun, no answer was made, the answer could not be
-- written, or it was written. This is hard because each clause must say what is kept at the moment
-- at which bytes of the answer are written. `handed_on` says what is kept before any is written.
use Rattle.std.proofs.Common.{inl, inr, refl, sym, subst, Ok, Err}
use Rattle.rc_streams.specs.Noting.{HasFailed, inner_of}
use Rattle.rc_script.specs.Says.{saying_of}
use Rattle.rc_serve.specs.declared.ending.Ending.TheVariants.{Done}
use Rattle.rc_serve.specs.declared.fault.ServeFault.{ServeFault}
use Rattle.rc_serve.specs.declared.fault.ServeFault.TheVariants.{Memory}
use Rattle.rc_serve.specs.Faults.{IsOfAnswer, IsServeFault, Spoils, of_failure}
use Rattle.rc_serve.specs.Meeting.{IsDoneBy, WantsWork}
use Rattle.rc_serve.specs.Ending.{ArrivesSaying, Ends, IsDoneAs, StopsOnce}
use Rattle.rc_serve.proofs.Arriving.{saying_arrives}
use Rattle.rc_serve.proofs.Keeping.{handed_on, kept_none, kept_once, line_still, same_size}
use Rattle.rc_serve.proofs.Lines.{fails_writing, inner_fault, spoils_failure, spoils_on}
use Rattle.rc_serve.proofs.Lines.{write_fault}
use Rattle.rc_serve.proofs.Steps.{ends_by}
use Rattle.rc_serve.proofs.Stopping.{answer_fault, never_ended, once_short, once_writing}
use Rattle.rc_serve.proofs.one_line.answer_once.Goals as goal

pub keep_altered-answer-requires-clause-size : goal.keep_altered-answer-requires-clause-size
keep_altered-answer-requires-clause-size g c κs within =
    let old = c.args.session.now in
    let new = c.step_answer-answer.new.session in
    same_size c.in-Ok.before (saying_of c.args.said.now) old.database new.database old.line new.line
    c.in-Ok.ensures.before c.step_answer-answer.ensures.stays.0 c.journal.ensures.states
    c.journal-2.ensures.states

pub returns-in_default : goal.returns-in_default
returns-in_default g c =
    let old = c.args.session.now in
    record {
      ended = tt;
      arrives = λ is. absurd (never_ended Done Memory is);
      kept = tt;
      unaltered = λ same. refl;
      led = tt;
      stopped = inl (
        refl,
        refl,
        tt,
        kept_none (g.K.Keeper.keeps c.args.keeper.now) old.database old.line,
      );
      fault = tt;
      sound = tt;
      flushed = inl tt;
      stays = (refl, c.requires.closed);
      whole = refl;
    }

pub returns : goal.returns
returns g c =
    let workers = c.args.executor.now.workers in
    let answers = g.G.Gate.answers c.args.executor.now.gate.now in
    let gives = g.G.Gate.gives c.args.executor.now.gate.now in
    let keeps = g.K.Keeper.keeps in
    let said = saying_of c.args.said.now in
    let old = c.args.session.now in
    let new = c.step_answer-answer.new.session in
    let was = c.args.keeper.now in
    let now = c.keep_altered-answer.new.keeper in
    let fault = c.in-Err.fault in
    let work = WantsWork old.database old.line said in
    let still = line_still workers answers gives old.database old.line c.journal.ensures.states
    c.in-Ok.before said new.line c.in-Ok.ensures.before c.step_answer-answer.ensures.may in
    let so = handed_on keeps g.K.Keeper.failed g.K.Keeper.fails was now c.in-Ok.before said old new
    work (λ answer. Ends (IsDoneAs workers answers gives) answer.ending old.database old.line said
    answer.text.items new.line) c.step_answer-answer.result c.keep_altered-answer.result (Err fault)
    c.in-Ok.ensures.before c.step_answer-answer.ensures.stays.0 still
    c.keep_altered-answer.ensures.kept c.step_answer-answer.ensures.met
    c.step_answer-answer.ensures.fault c.step_answer-answer.ensures.whole c.in-Err.is in
    record {
      ended = tt;
      arrives = λ is. absurd {A = ArrivesSaying old.database old.line said new.line}
          (never_ended Done fault is);
      kept = tt;
      unaltered = so.unaltered;
      led = tt;
      stopped =
          once_short (IsDoneBy workers answers gives) g.K.Keeper.fails (keeps was) (keeps now) said
          (g.W.Write.contents (inner_of c.args.writer.now)) old new (g.K.Keeper.failed now) fault
          c.step_answer-answer.ensures.may so.kept so.ends;
      fault =
          inner_fault ⊥ (HasFailed c.args.writer.now) (g.K.Keeper.failed now) work fault old new
          so.ends;
      sound = tt;
      flushed = inr (λ was. was);
      stays = c.step_answer-answer.ensures.stays;
      whole = so.spoils;
    }

pub returns-in-Ok-answer : goal.returns-in-Ok-answer
returns-in-Ok-answer g c =
    let workers = c.args.executor.now.workers in
    let answers = g.G.Gate.answers c.args.executor.now.gate.now in
    let gives = g.G.Gate.gives c.args.executor.now.gate.now in
    let keeps = g.K.Keeper.keeps in
    let said = saying_of c.args.said.now in
    let old = c.args.session.now in
    let new = c.step_answer-answer.new.session in
    let was = c.args.keeper.now in
    let now = c.keep_altered-answer.new.keeper in
    let answer = c.in-Ok-answer.answer in
    let failure = c.in-Err-write_answer.failure in
    let before = g.W.Write.contents (inner_of c.args.writer.now) in
    let gained = g.W.Write.contents (inner_of c.write_answer.new.writer) in
    let still = line_still workers answers gives old.database old.line c.journal.ensures.states
    c.in-Ok.before said new.line c.in-Ok.ensures.before c.step_answer-answer.ensures.may in
    let so = handed_on keeps g.K.Keeper.failed g.K.Keeper.fails was now c.in-Ok.before said old new
    (WantsWork old.database old.line said) (λ answer. Ends (IsDoneAs workers answers gives)
    answer.ending old.database old.line said answer.text.items new.line)
    c.step_answer-answer.result c.keep_altered-answer.result (Ok answer) c.in-Ok.ensures.before
    c.step_answer-answer.ensures.stays.0 still c.keep_altered-answer.ensures.kept
    c.step_answer-answer.ensures.met c.step_answer-answer.ensures.fault
    c.step_answer-answer.ensures.whole c.in-Ok-answer.is in
    record {
      ended = tt;
      arrives = λ is. absurd {A = ArrivesSaying old.database old.line said new.line}
          (never_ended Done c.from.result is);
      kept = tt;
      unaltered = so.unaltered;
      led = tt;
      stopped =
          subst (λ (f : ServeFault). StopsOnce (IsDoneBy workers answers gives) f g.K.Keeper.fails
          (keeps was) (keeps now) said before gained old new) (sym c.from.ensures)
          (once_writing (IsDoneBy workers answers gives) g.K.Keeper.fails (keeps was) (keeps now)
          said before old new failure gained answer.text.items
          (write_fault failure c.in-Err-write_answer.ensures.fault.0)
          (ends_by workers answers gives answer.ending old.database old.line said answer.text.items
          new.line so.good) (rw c.deref.ensures.value at c.in-Err-write_answer.ensures.front)
          so.kept);
      fault =
          subst (IsServeFault ⊥ (HasFailed c.write_answer.new.writer) (g.K.Keeper.failed now))
          (sym c.from.ensures)
          (fails_writing failure ⊥ (HasFailed c.write_answer.new.writer) (g.K.Keeper.failed now)
          c.in-Err-write_answer.ensures.fault.0 c.in-Err-write_answer.ensures.fault.1);
      sound = tt;
      flushed =
          inl (subst IsOfAnswer (sym c.from.ensures)
          (answer_fault failure c.in-Err-write_answer.ensures.fault.0));
      stays = c.step_answer-answer.ensures.stays;
      whole =
          subst (λ (f : ServeFault). Spoils f old new) (sym c.from.ensures)
          (spoils_on (of_failure failure) old new new so.spoils (spoils_failure failure new));
    }

pub returns-in-Ok-write_answer : goal.returns-in-Ok-write_answer
returns-in-Ok-write_answer g c =
    let workers = c.args.executor.now.workers in
    let answers = g.G.Gate.answers c.args.executor.now.gate.now in
    let gives = g.G.Gate.gives c.args.executor.now.gate.now in
    let said = saying_of c.args.said.now in
    let old = c.args.session.now in
    let new = c.step_answer-answer.new.session in
    let was = c.args.keeper.now in
    let now = c.keep_altered-answer.new.keeper in
    let answer = c.in-Ok-answer.answer in
    let still = line_still workers answers gives old.database old.line c.journal.ensures.states
    c.in-Ok.before said new.line c.in-Ok.ensures.before c.step_answer-answer.ensures.may in
    let so = handed_on g.K.Keeper.keeps g.K.Keeper.failed g.K.Keeper.fails was now c.in-Ok.before
    said old new (WantsWork old.database old.line said) (λ answer. Ends
    (IsDoneAs workers answers gives) answer.ending old.database old.line said answer.text.items
    new.line) c.step_answer-answer.result c.keep_altered-answer.result (Ok answer)
    c.in-Ok.ensures.before c.step_answer-answer.ensures.stays.0 still
    c.keep_altered-answer.ensures.kept c.step_answer-answer.ensures.met
    c.step_answer-answer.ensures.fault c.step_answer-answer.ensures.whole c.in-Ok-answer.is in
    record {
      ended = (
        answer.text.items,
        so.good,
        rw c.deref.ensures.value at c.in-Ok-write_answer.ensures.whole,
      );
      arrives = λ is.
          saying_arrives workers answers gives answer.ending old.database old.line said
          answer.text.items new.line c.db.ensures.database c.journal.ensures.states so.good cc;
      kept = so.kept;
      unaltered = so.unaltered;
      led =
          kept_once g.K.Keeper.went c.in-Ok.before said old.database new.database old.line new.line
          was now c.in-Ok.ensures.before c.step_answer-answer.ensures.stays.0 still
          c.in-Ok-answer.ensures.led;
      stopped = tt;
      fault = tt;
      sound = λ failed. c.requires.writer (c.in-Ok-write_answer.ensures.sound failed);
      flushed = c.in-Ok-write_answer.ensures.flushed;
      stays = c.step_answer-answer.ensures.stays;
      whole = so.spoils;
    }
