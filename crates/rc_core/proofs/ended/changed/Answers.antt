use Rattle.std.proofs.Common.{inl, inr}
use Rattle.rc_core.proofs.ended.changed.Goals as goal

pub returns-clause-members : goal.returns-clause-members
returns-clause-members c s = (
  λ has. elim ((c.join.ensures.members s).0 has) [
    | inl was ↦ inl ((c.without.ensures.members s).0 was)
    | inr came ↦ inr came
  ],
  λ h. (c.join.ensures.members s).1 (elim h [
    | inl was ↦ inl ((c.without.ensures.members s).1 was)
    | inr came ↦ inr came
  ]),
)
