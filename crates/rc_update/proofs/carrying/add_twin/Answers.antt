use Rattle.std.proofs.Common.{⊎_elim, inl, inr, subst, sym}
use Rattle.rc_update.specs.Carrying.{IsTwin}
use Rattle.rc_update.specs.Conversions.{conversions_of}
use Rattle.rc_update.proofs.CarryingLemmas.{one_twin}
use Rattle.rc_update.proofs.carrying.add_twin.Goals as goal

pub returns-in-Some-clause-members : goal.returns-in-Some-clause-members
returns-in-Some-clause-members c t = (
  λ has. ⊎_elim (λ old. inl old)
      (λ is. inr
      (subst (IsTwin c.args.old.now c.args.new.now (conversions_of c.args.list.now) c.args.id)
      (sym is) c.in-Some.ensures.found))
      ((c.insert.ensures.members t).0 has),
  λ cases. (c.insert.ensures.members t).1
      (⊎_elim (λ old. inl old)
      (λ twin. inr
      (one_twin c.args.old.now c.args.new.now (conversions_of c.args.list.now) c.args.id t
      c.in-Some.other c.twin.ensures.database twin c.in-Some.ensures.found))
      cases),
)

pub returns-in_default-clause-members : goal.returns-in_default-clause-members
returns-in_default-clause-members c t = (
  λ has. inl has,
  λ cases. ⊎_elim (λ old. old) (λ twin. absurd (c.in_default.ensures.missing t twin)) cases,
)
