use Rattle.std.proofs.Common.{◌⊎◌, inl, inr, length, sym, ap, ◌∙◌, arith}
use Rattle.rc_model.specs.Names.{Has}
use Rattle.rc_model.proofs.SetMembers.{has_within}
use Rattle.rc_set.proofs.Flags.{bound_is, length_is, bit_is}
use Rattle.rc_set.proofs.Writes.{Writes, still_words, has_written}
use Rattle.rc_set.proofs.Set.join.Goals as goal

pub join_words-requires : goal.join_words-requires
join_words-requires c =
    let bound = bound_is c.self.invariant c.self.view_is in
    let other_bound = bound_is c.other.invariant c.other.view_is in
    omega (
      arith,
      bound,
      other_bound,
      c.self.invariant.enough,
      c.self.invariant.few,
      c.other.invariant.enough,
      c.other.invariant.few,
      ap length c.deref.ensures.value,
      ap length c.deref_mut.ensures.value,
    )

-- what was written
writes : (c : goal.After-self-1) → Writes c.self.inside.bound c.self.inside.words
    c.deref_mut.result.now c.join_words.new.words
    (λ s. Has c.args.self.now s ⊎ Has c.args.other.now s)
writes c =
    let bound = bound_is c.self.invariant c.self.view_is in
    let now = bit_is c.self.invariant c.self.view_is c.deref_mut.ensures.value in
    let theirs = bit_is c.other.invariant c.other.view_is c.deref.ensures.value in
    record {
      are = c.self.invariant;
      same = c.deref_mut.ensures.value;
      long = c.join_words.auto.words;
      bits = λ s. (
        λ bit. elim ((c.join_words.ensures s).0 bit) [
          | inl had ↦ inl ((now s).0 had)
          | inr other ↦ inr ((theirs s).0 other)
        ],
        λ h. (c.join_words.ensures s).1 (elim h [
          | inl had ↦ inl ((now s).1 had)
          | inr other ↦ inr ((theirs s).1 other)
        ]),
      );
      low = λ s h. elim h [
        | inl had ↦ omega (arith, bound, has_within c.args.self.now s had)
        | inr other ↦ omega (arith, bound, c.requires, has_within c.args.other.now s other)
      ];
    }

pub invariant_of-self : goal.invariant_of-self
invariant_of-self c = still_words (writes c)

pub returns-clause-members : goal.returns-clause-members
returns-clause-members c = has_written (writes c)

pub returns-clause-bound : goal.returns-clause-bound
returns-clause-bound c =
    length_is c.self.inside.bound _ ∙ sym (bound_is c.self.invariant c.self.view_is)
