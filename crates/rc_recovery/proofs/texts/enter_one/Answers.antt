use Rattle.std.proofs.Common.{◌≡◌, ℕ, List, Err, ap, inr}
use Rattle.rc_model.specs.Database.{Database}
use Rattle.rc_session.specs.Commands.{command_of}
use Rattle.rc_recovery.specs.declared.texts.RecoverFault.TheVariants.{Log}
use Rattle.rc_recovery.specs.RunLog.{IsEnteredAs, IsRefusedIn, session_on}
use Rattle.rc_recovery.proofs.Refused.{by_text}
use Rattle.rc_recovery.proofs.texts.enter_one.Goals as goal

pub returns-in-Ok-entered-clause-entered : goal.returns-in-Ok-entered-clause-entered
returns-in-Ok-entered-clause-entered c =
    let session = c.in-Ok-resume.session in
    let same : session ≡ session_on c.args.db c.in-Ok.line.line =
    let is = c.in-Ok-resume.is in let made = c.resume.ensures in cc
    in
    let made = c.in-Ok-entered.made in (
      c.if-not-has_events.ensures.events,
      by_text (λ (d : Database) (text : List ℕ).
          IsEnteredAs d text (command_of c.args.step.now) made.text.items made.report.items)
          c.args.db c.in-Ok.line.line session c.args.text.now same c.in-Ok.ensures.text
          c.in-Ok-entered.ensures.entered,
    )

pub returns-in-Err-entered-clause-unfit : goal.returns-in-Err-entered-clause-unfit
returns-in-Err-entered-clause-unfit c = λ is.
    let log : c.in-Err-entered.fault ≡ Log = let e = is in cc in
    let session = c.in-Ok-resume.session in
    let same : session ≡ session_on c.args.db c.in-Ok.line.line =
    let is = c.in-Ok-resume.is in let made = c.resume.ensures in cc
    in (
      c.if-not-has_events.ensures.events,
      inr
          (by_text (λ (d : Database) (text : List ℕ). IsRefusedIn d text
          (command_of c.args.step.now))
          c.args.db c.in-Ok.line.line session c.args.text.now same c.in-Ok.ensures.text
          (c.in-Err-entered.ensures.refused (ap Err log))),
    )
