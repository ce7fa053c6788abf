use Rattle.std.proofs.Common.{length, sym, ap, ◌∙◌, arith}
use Rattle.rc_model.specs.Names.{Has}
use Rattle.rc_model.proofs.SetMembers.{has_within}
use Rattle.rc_set.proofs.Flags.{bound_is, length_is, bit_is}
use Rattle.rc_set.proofs.Writes.{Writes, still_words, has_written}
use Rattle.rc_set.proofs.Set.without.Goals as goal

pub clear_words-requires : goal.clear_words-requires
clear_words-requires c =
    let bound = bound_is c.self.invariant c.self.view_is in
    let other_bound = bound_is c.other.invariant c.other.view_is in
    omega (
      arith,
      bound,
      other_bound,
      c.self.invariant.enough,
      c.self.invariant.few,
      c.other.invariant.enough,
      c.other.invariant.few,
      ap length c.deref.ensures.value,
      ap length c.deref_mut.ensures.value,
    )

-- what was written
writes : (c : goal.After-self-1) → Writes c.self.inside.bound c.self.inside.words
    c.deref_mut.result.now c.clear_words.new.words
    (λ s. Has c.args.self.now s × (Has c.args.other.now s → ⊥))
writes c =
    let bound = bound_is c.self.invariant c.self.view_is in
    let now = bit_is c.self.invariant c.self.view_is c.deref_mut.ensures.value in
    let theirs = bit_is c.other.invariant c.other.view_is c.deref.ensures.value in
    record {
      are = c.self.invariant;
      same = c.deref_mut.ensures.value;
      long = c.clear_words.auto.words;
      bits = λ s. (
        λ bit.
            let h = (c.clear_words.ensures s).0 bit in
            ((now s).0 h.0, λ other. h.1 ((theirs s).1 other)),
        λ h. (c.clear_words.ensures s).1 ((now s).1 h.0, λ bit. h.1 ((theirs s).0 bit)),
      );
      low = λ s h. omega (arith, bound, has_within c.args.self.now s h.0);
    }

pub invariant_of-self : goal.invariant_of-self
invariant_of-self c = still_words (writes c)

pub returns-clause-members : goal.returns-clause-members
returns-clause-members c = has_written (writes c)

pub returns-clause-bound : goal.returns-clause-bound
returns-clause-bound c =
    length_is c.self.inside.bound _ ∙ sym (bound_is c.self.invariant c.self.view_is)
