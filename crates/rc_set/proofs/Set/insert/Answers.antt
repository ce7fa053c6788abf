use Rattle.std.proofs.Common.{◌≡◌, ◌⊎◌, inl, inr, true, false, not, length, sym, ap, ◌∙◌, arith}
use Rattle.std.proofs.lemmas.Bool.{false_from_ne_true}
use Rattle.rc_set.specs.Words.{has_bit}
use Rattle.rc_model.specs.Names.{Has}
use Rattle.rc_model.proofs.SetMembers.{has_within}
use Rattle.rc_set.proofs.Flags.{bound_is, length_is, bit_is}
use Rattle.rc_set.proofs.Writes.{Writes, still_words, has_written}
use Rattle.rc_set.proofs.Set.insert.Goals as goal

pub bit-fresh-requires : goal.bit-fresh-requires
bit-fresh-requires c =
    omega (
      arith,
      bound_is c.self.invariant c.self.view_is,
      c.self.invariant.enough,
      ap length c.deref.ensures.value,
    )

pub set_bit-requires : goal.set_bit-requires
set_bit-requires c =
    omega (
      arith,
      bound_is c.self.invariant c.self.view_is,
      c.self.invariant.enough,
      ap length c.deref_mut.ensures.value,
    )

pub returns-clause-fresh : goal.returns-clause-fresh
returns-clause-fresh c =
    let has = bit_is c.self.invariant c.self.view_is c.deref.ensures.value c.args.id in (
      λ yes there.
          let known : not c.bit-fresh.result ≡ false = ap not (c.bit-fresh.ensures ∙ has.1 there) in
          let bad : false ≡ true = sym known ∙ yes in cc,
      λ none. ap not
          (c.bit-fresh.ensures
          ∙ false_from_ne_true (has_bit c.deref.result.now c.args.id) (λ bit. none (has.0 bit))),
    )

-- what was written
writes : (c : goal.After-self-1) → Writes c.self.inside.bound c.self.inside.words
    c.deref_mut.result.now c.set_bit.new.words (λ s. Has c.args.self.now s ⊎ (s ≡ c.args.id))
writes c =
    let bound = bound_is c.self.invariant c.self.view_is in
    let now = bit_is c.self.invariant c.self.view_is c.deref_mut.ensures.value in
    record {
      are = c.self.invariant;
      same = c.deref_mut.ensures.value;
      long = c.set_bit.auto.words;
      bits = λ s. (
        λ bit. elim ((c.set_bit.ensures s).0 bit) [
          | inl had ↦ inl ((now s).0 had)
          | inr same ↦ inr same
        ],
        λ h. (c.set_bit.ensures s).1 (elim h [
          | inl had ↦ inl ((now s).1 had)
          | inr same ↦ inr same
        ]),
      );
      low = λ s h. elim h [
        | inl had ↦ omega (arith, bound, has_within c.args.self.now s had)
        | inr same ↦ omega (arith, same, bound, c.requires)
      ];
    }

pub invariant_of-self : goal.invariant_of-self
invariant_of-self c = still_words (writes c)

pub returns-clause-members : goal.returns-clause-members
returns-clause-members c = has_written (writes c)

pub returns-clause-bound : goal.returns-clause-bound
returns-clause-bound c =
    length_is c.self.inside.bound _ ∙ sym (bound_is c.self.invariant c.self.view_is)
