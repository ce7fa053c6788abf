use Rattle.std.proofs.Common.{ap, subst, sym}
use Rattle.std.proofs.lemmas.List.{take_all}
use Rattle.std.proofs.lemmas.List.Sums.{fold_more}
use Rattle.clap.specs.Words.{App}
use Rattle.rc_args.specs.Commands.{Reads, bare, with_arg}
use Rattle.rc_args.specs.Told.{told_command, told_rule}
use Rattle.rc_args.proofs.cmdline.commands.command_of.Goals as goal

pub loop-told-preserved : goal.loop-told-preserved
loop-told-preserved c =
    let P : App → Type 0 = λ app. Reads c.with_arg-command.result app in
    subst P
    (sym (fold_more (λ app told. with_arg app (told_rule told)) (bare c.args.name.now)
    c.args.args.now c.loop-told.told-index _ c.loop-told-test.true))
    (c.with_arg-command.ensures _ c.loop-told.invariant)

pub returns : goal.returns
returns c =
    let P : App → Type 0 = λ app. Reads c.loop-told.command app in
    subst P (ap (told_command c.args.name.now)
    (take_all c.loop-told.told-index c.args.args.now c.loop-told-test.false)) c.loop-told.invariant
