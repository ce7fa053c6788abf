use Rattle.rc_session.specs.Commands.{command_of}
use Rattle.rc_session.specs.Report.{told_of}
use Rattle.rc_recovery.proofs.Refused.{recovers_on, refused_in}
use Rattle.rc_recovery.proofs.texts.entered_in.Goals as goal

pub returns-in_ok-text-in-Ok-clause-entered : goal.returns-in_ok-text-in-Ok-clause-entered
returns-in_ok-text-in-Ok-clause-entered c = λ text spells. record {
  line = c.args.session.now.line;
  line_of = c.requires.line;
  spells = spells;
  report = told_of c.in-Ok.done;
  new = c.recover.new.session;
  enters = recovers_on c.args.session.now (command_of c.args.step.now) (told_of c.in-Ok.done)
      c.recover.new.session c.requires.fresh c.in-Ok.ensures;
  entered_is = c.in_ok-text-in-Ok.ensures;
  told_is =
      let report = c.in_ok-report-in-Ok.ensures in
      let names = c.names.ensures.names in
      let db = c.db.ensures.db in cc;
}

pub returns-in-Err : goal.returns-in-Err
returns-in-Err c = record {
  entered = tt;
  refused = λ is text spells.
      refused_in c.args.session.now (command_of c.args.step.now) c.in-Err.refusal
      c.recover.new.session text (c.fault_by.ensures (let e = is in cc)) c.requires.fresh
      c.requires.line spells c.in-Err.ensures;
}
