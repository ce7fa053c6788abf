use Rattle.std.proofs.Common.{subst, sym}
use Rattle.rc_historytext.specs.Text.{IsHistoryText}
use Rattle.rc_historytext.proofs.Kept.{earlier_kept}
use Rattle.rc_historytext.proofs.keeping.cut_earlier.Goals as goal

pub returns-then-not-is_kept-clause-is : goal.returns-then-not-is_kept-clause-is
returns-then-not-is_kept-clause-is c =
    subst IsHistoryText (sym c.drop_earlier.ensures) (earlier_kept c.args.form.now c.requires)
