use Rattle.std.proofs.Common.{Contains, sym, subst}
use Rattle.rc_source.specs.Said.{meant}
use Rattle.rc_source.proofs.found.Found.has.Goals as goal

pub returns : goal.returns
returns c = (
  λ yes. subst (λ ms. Contains (meant ms) c.args.name.now) c.self.view_is
      ((c.self.invariant.all c.args.name.now).0 (c.has.ensures.0 yes)),
  λ there. c.has.ensures.1
      ((c.self.invariant.all c.args.name.now).1
      (subst (λ ms. Contains (meant ms) c.args.name.now) (sym c.self.view_is) there)),
)
