use Rattle.std.proofs.Common.{length, sym, ap, ◌∙◌, arith}
use Rattle.rc_set.proofs.Flags.{bound_is, bit_is}
use Rattle.rc_set.proofs.Set.contains.Goals as goal

pub bit-requires : goal.bit-requires
bit-requires c =
    omega (
      arith,
      bound_is c.self.invariant c.self.view_is,
      c.self.invariant.enough,
      ap length c.deref.ensures.value,
    )

pub returns : goal.returns
returns c =
    let has = bit_is c.self.invariant c.self.view_is c.deref.ensures.value c.args.id in
    (λ yes. has.0 (sym c.bit.ensures ∙ yes), λ there. c.bit.ensures ∙ has.1 there)
