use Rattle.std.proofs.Common.{inl, inr, refl, rules}
use Rattle.rc_cli.proofs.status.status_as_asked.Goals as goal

pub returns-in-Err-clause-told : goal.returns-in-Err-clause-told
returns-in-Err-clause-told g c = (
  c.deref.result.now,
  c.deref-2.result.now,
  inr (c.in-Err.fault, inl (c.in-Err.ensures.none, refl), c.tell_ended.ensures),
)

pub returns-in-Ok-written-clause-told : goal.returns-in-Ok-written-clause-told
returns-in-Ok-written-clause-told g c = (c.deref.result.now, c.deref-2.result.now, search rules)

pub returns-in-Err-written-clause-told : goal.returns-in-Err-written-clause-told
returns-in-Err-written-clause-told g c = (c.deref.result.now, c.deref-2.result.now, search rules)
