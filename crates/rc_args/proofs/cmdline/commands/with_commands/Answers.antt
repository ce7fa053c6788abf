use Rattle.std.proofs.Common.{ap, subst, sym}
use Rattle.std.proofs.lemmas.List.{take_all}
use Rattle.std.proofs.lemmas.List.Sums.{fold_more}
use Rattle.clap.specs.Words.{App}
use Rattle.rc_args.specs.Commands.{Reads, with_command}
use Rattle.rc_args.specs.Told.{told_command, with_told}
use Rattle.rc_args.proofs.cmdline.commands.with_commands.Goals as goal

pub loop-told-preserved : goal.loop-told-preserved
loop-told-preserved c = λ app reads.
    let P : App → Type 0 = λ made. Reads c.with_command-whole.result made in
    subst P (sym (fold_more (λ made told. with_command made (told_command told.name.now
    told.args.now)) app c.args.commands.now c.loop-told.told-index _ c.loop-told-test.true))
    (c.with_command-whole.ensures _ (c.loop-told.invariant app reads))

pub returns : goal.returns
returns c = λ app reads.
    let P : App → Type 0 = λ made. Reads c.loop-told.whole made in
    subst P (ap (with_told app) (take_all c.loop-told.told-index c.args.commands.now
    c.loop-told-test.false)) (c.loop-told.invariant app reads)
