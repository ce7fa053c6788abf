use Rattle.std.proofs.Common.{length, ap, arith}
use Rattle.rc_set.proofs.Flags.{bound_is, bit_is}
use Rattle.rc_set.proofs.Set.fill_missing.Goals as goal

pub returns : goal.returns
returns g c =
    let bound = bound_is c.self.invariant c.self.view_is in
    let bits = bit_is c.self.invariant c.self.view_is c.deref.ensures.value in
    let long = ap length c.deref.ensures.value in
    let fills = c.fill_clear.ensures in
    record {
      bound = fills.bound;
      filled = λ s d low lacks.
          fills.filled s d low (
            omega (arith, low, c.requires, bound, c.self.invariant.enough, long),
            λ bit. lacks ((bits s).0 bit),
          );
      same = λ s d not. fills.same s d (λ clear. not (λ has. clear.1 ((bits s).1 has)));
    }
