use Rattle.std.proofs.Common.{sym, arith}
use Rattle.rc_set.proofs.Flags.{bound_is}
use Rattle.rc_set.proofs.Set.bound.Goals as goal

pub returns-clause-bound : goal.returns-clause-bound
returns-clause-bound c = sym (bound_is c.self.invariant c.self.view_is)

pub returns-clause-small : goal.returns-clause-small
returns-clause-small c =
    omega (arith, bound_is c.self.invariant c.self.view_is, c.self.invariant.small)
