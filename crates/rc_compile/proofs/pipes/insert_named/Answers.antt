use Rattle.std.proofs.Common.{◌∙◌, ⊎_elim, inl, inr, ap, slice_get}
use Rattle.rc_model.proofs.ByteOrder.{one_place}
use Rattle.rc_model.proofs.Places.{contains_at}
use Rattle.rc_compile.proofs.pipes.insert_named.Goals as goal

pub returns-in-Some-clause-members : goal.returns-in-Some-clause-members
returns-in-Some-clause-members c s = (
  λ has. ⊎_elim (λ old. inl old)
      (λ is. inr (ap (slice_get c.args.names.now) is ∙ c.in-Some.ensures.found))
      ((c.insert.ensures.members s).0 has),
  λ cases. (c.insert.ensures.members s).1
      (⊎_elim (λ old. inl old)
      (λ there. inr
      (one_place c.args.names.now c.args.text.now s c.in-Some.id c.len-count.ensures.names.order
      there c.in-Some.ensures.found)) cases),
)

pub returns-in_default-clause-members : goal.returns-in_default-clause-members
returns-in_default-clause-members c s = (
  λ has. inl has,
  λ cases. ⊎_elim (λ old. old)
      (λ there. absurd
      (c.in_default.ensures.missing (contains_at c.args.names.now s c.args.text.now there))) cases,
)
