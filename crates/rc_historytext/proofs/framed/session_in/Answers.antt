use Rattle.std.proofs.Common.{subst, sym}
use Rattle.rc_historytext.specs.Present.{IsPresent}
use Rattle.rc_historytext.proofs.framed.session_in.Goals as goal

pub returns-in-Ok-clause-ok : goal.returns-in-Ok-clause-ok
returns-in-Ok-clause-ok c = (
  c.in_ok-present.present.database.now,
  subst (λ s. IsPresent c.args.history.now
      c.in_ok-present.present.database.now s) (sym c.in-Ok.ensures.ok) c.in_ok-present.ensures.ok,
)
