use Rattle.rc_core.proofs.ended.moved.Goals as goal

pub returns-clause-members : goal.returns-clause-members
returns-clause-members c s = (
  λ has.
      let here = (c.without-2.ensures.members s).0 has in
      ((c.without.ensures.members s).0 here.0, here.1),
  λ h. (c.without-2.ensures.members s).1 ((c.without.ensures.members s).1 h.0, h.1),
)
