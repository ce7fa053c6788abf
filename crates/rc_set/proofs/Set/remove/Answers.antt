use Rattle.std.proofs.Common.{◌≢◌, length, sym, ap, ◌∙◌, arith}
use Rattle.rc_model.specs.Names.{Has}
use Rattle.rc_model.proofs.SetMembers.{has_within}
use Rattle.rc_set.proofs.Flags.{bound_is, length_is, bit_is}
use Rattle.rc_set.proofs.Writes.{Writes, still_words, has_written}
use Rattle.rc_set.proofs.Set.remove.Goals as goal

pub bit-found-requires : goal.bit-found-requires
bit-found-requires c =
    omega (
      arith,
      bound_is c.self.invariant c.self.view_is,
      c.self.invariant.enough,
      ap length c.deref.ensures.value,
    )

pub clear_bit-requires : goal.clear_bit-requires
clear_bit-requires c =
    omega (
      arith,
      bound_is c.self.invariant c.self.view_is,
      c.self.invariant.enough,
      ap length c.deref_mut.ensures.value,
    )

pub returns-clause-found : goal.returns-clause-found
returns-clause-found c =
    let has = bit_is c.self.invariant c.self.view_is c.deref.ensures.value c.args.id in
    (λ yes. has.0 (sym c.bit-found.ensures ∙ yes), λ there. c.bit-found.ensures ∙ has.1 there)

-- what was written
writes : (c : goal.After-self-1) → Writes c.self.inside.bound c.self.inside.words
    c.deref_mut.result.now c.clear_bit.new.words (λ s. Has c.args.self.now s × (s ≢ c.args.id))
writes c =
    let bound = bound_is c.self.invariant c.self.view_is in
    let now = bit_is c.self.invariant c.self.view_is c.deref_mut.ensures.value in
    record {
      are = c.self.invariant;
      same = c.deref_mut.ensures.value;
      long = c.clear_bit.auto.words;
      bits = λ s. (
        λ bit. let h = (c.clear_bit.ensures s).0 bit in ((now s).0 h.0, h.1),
        λ h. (c.clear_bit.ensures s).1 ((now s).1 h.0, h.1),
      );
      low = λ s h. omega (arith, bound, has_within c.args.self.now s h.0);
    }

pub invariant_of-self : goal.invariant_of-self
invariant_of-self c = still_words (writes c)

pub returns-clause-members : goal.returns-clause-members
returns-clause-members c = has_written (writes c)

pub returns-clause-bound : goal.returns-clause-bound
returns-clause-bound c =
    length_is c.self.inside.bound _ ∙ sym (bound_is c.self.invariant c.self.view_is)
