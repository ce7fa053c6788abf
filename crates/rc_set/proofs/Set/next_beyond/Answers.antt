use Rattle.std.proofs.Common.{◌↔◌, ℕ, length, ap, arith}
use Rattle.rc_model.specs.Names.{Has}
use Rattle.rc_model.proofs.SetMembers.{has_within}
use Rattle.rc_set.specs.Words.{HasBit}
use Rattle.rc_set.proofs.Flags.{bound_is, bit_is}
use Rattle.rc_set.proofs.Nexts.{next_as, none_as, next_low}
use Rattle.rc_set.proofs.Set.next_beyond.Goals as goal

pub next_bit_beyond-requires-clause-long : goal.next_bit_beyond-requires-clause-long
next_bit_beyond-requires-clause-long c =
    omega (
      arith,
      bound_is c.self.invariant c.self.view_is,
      bound_is c.other.invariant c.other.view_is,
      c.self.invariant.enough,
      c.self.invariant.few,
      c.other.invariant.enough,
      c.other.invariant.few,
      ap length c.deref.ensures.value,
      ap length c.deref-2.ensures.value,
    )

-- the bits that are set in its words alone are what it has alone
beyond_is : (c : goal.After-next_bit_beyond) → (s : ℕ)
    → (HasBit c.deref.result.now s × (HasBit c.deref-2.result.now s → ⊥))
    ↔ (Has c.args.self.now s × (Has c.args.other.now s → ⊥))
beyond_is c s =
    let mine = bit_is c.self.invariant c.self.view_is c.deref.ensures.value s in
    let theirs = bit_is c.other.invariant c.other.view_is c.deref-2.ensures.value s in (
      λ h. (mine.0 h.0, λ has. h.1 (theirs.1 has)),
      λ h. (mine.1 h.0, λ bit. h.1 (theirs.0 bit)),
    )

pub returns-clause-some : goal.returns-clause-some
returns-clause-some c =
    next_as _ _ c.args.from c.next_bit_beyond.result (beyond_is c) c.next_bit_beyond.ensures.some

pub returns-clause-none : goal.returns-clause-none
returns-clause-none c =
    none_as _ _ c.args.from c.next_bit_beyond.result (beyond_is c) c.next_bit_beyond.ensures.none

pub returns-clause-below : goal.returns-clause-below
returns-clause-below c =
    next_low (λ s. Has c.args.self.now s × (Has c.args.other.now s → ⊥)) c.args.from
    (length c.args.self.now) c.next_bit_beyond.result
    (omega (arith, bound_is c.self.invariant c.self.view_is, c.self.invariant.small))
    (λ s h. has_within c.args.self.now s h.0) (returns-clause-some c)
