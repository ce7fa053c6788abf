use Rattle.std.proofs.Common.{◌≡◌, ◌∙◌, option_map, Option, Err, inr, refl, ap}
use Rattle.std.specs.Prelude.{IfNone, IfSome}
use Rattle.rc_recovery.specs.RunLog.{HasNothing, IsEntered, IsUnfit}
use Rattle.rc_recovery.specs.declared.texts.Recovered.{Recovered}
use Rattle.rc_recovery.specs.declared.crash.recovering.FilesFault.TheVariants.{Log}
use Rattle.rc_recovery.specs.Files.{Files}
use Rattle.rc_recovery.proofs.Files.{is_cut, makes, of_files}
use Rattle.rc_recovery.proofs.crash.recovering.recover_files.Goals as goal

pub returns-in-Ok-clause-moment : goal.returns-in-Ok-clause-moment
returns-in-Ok-clause-moment g c =
    let f : Files = g.F.TwoFiles.holds c.args.files.now in
    let file : c.deref.result.now ≡ f.file = c.deref.ensures.value ∙ c.in_ok-file.ensures.bytes in
    let log : c.deref-2.result.now ≡ f.log = c.deref-2.ensures.value ∙ c.in_ok-log.ensures.bytes in
    let made : Option Recovered = c.in-Ok.made in
    inr (
      option_map (λ one. one.text.items) made,
      makes (λ one. one.text.items) (λ one. one.report.items) c.args.db f made
          (of_files (λ a b. IfSome made (λ one. IsEntered c.args.db a b one.text.items
          one.report.items)) c.deref.result.now c.deref-2.result.now f file log
          c.in-Ok.ensures.entered)
          (of_files (λ a b. IfNone made (HasNothing c.args.db a b)) c.deref.result.now
          c.deref-2.result.now f file log c.in-Ok.ensures.nothing),
      c.put_made.ensures.moment,
    )

pub returns-in-Ok-clause-crash : goal.returns-in-Ok-clause-crash
returns-in-Ok-clause-crash g c = λ h left.
    let f : Files = g.F.TwoFiles.holds c.args.files.now in
    let file : c.deref.result.now ≡ f.file = c.deref.ensures.value ∙ c.in_ok-file.ensures.bytes in
    let log : c.deref-2.result.now ≡ f.log = c.deref-2.ensures.value ∙ c.in_ok-log.ensures.bytes in
    let made : Option Recovered = c.in-Ok.made in
    is_cut c.args.db f h (option_map (λ one. one.text.items) made)
    (g.F.TwoFiles.left c.args.files.now h) (c.requires.opened h)
    (makes (λ one. one.text.items) (λ one. one.report.items) c.args.db f made
    (of_files (λ a b. IfSome made (λ one. IsEntered c.args.db a b one.text.items one.report.items))
    c.deref.result.now c.deref-2.result.now f file log c.in-Ok.ensures.entered)
    (of_files (λ a b. IfNone made (HasNothing c.args.db a b)) c.deref.result.now
    c.deref-2.result.now f file log c.in-Ok.ensures.nothing)) (c.put_made.ensures.crash h left)

pub returns-clause-unfit : goal.returns-clause-unfit
returns-clause-unfit g c = λ is.
    let same : c.in-Err.fault ≡ Log = let e = is in cc in
    let f : Files = g.F.TwoFiles.holds c.args.files.now in
    let file : c.deref.result.now ≡ f.file = c.deref.ensures.value ∙ c.in_ok-file.ensures.bytes in
    let log : c.deref-2.result.now ≡ f.log =
    c.deref-2.ensures.value ∙ c.in_ok-log.ensures.bytes in (
      of_files (IsUnfit c.args.db) c.deref.result.now c.deref-2.result.now f file log
          (c.in-Err.ensures.unfit (ap Err same)),
      refl,
    )
