use Rattle.std.proofs.Common.{◌≡◌, ℕ, length, sym, ap, ◌∙◌, subst, arith}
use Rattle.rc_set.specs.Words.{flags_of, AreWords}
use Rattle.rc_set.proofs.Flags.{bound_is}
use Rattle.rc_set.proofs.Set.overwrite.Goals as goal

pub copy_from_slice-requires : goal.copy_from_slice-requires
copy_from_slice-requires c =
    let bound = bound_is c.self.invariant c.self.view_is in
    let other_bound = bound_is c.other.invariant c.other.view_is in
    omega (
      arith,
      bound,
      other_bound,
      c.self.invariant.enough,
      c.self.invariant.few,
      c.other.invariant.enough,
      c.other.invariant.few,
      ap length c.deref.ensures.value,
      c.self.inside.words.ok,
    )

-- the bounds are the same
one_bound : (c : goal.After-copy_from_slice) → c.other.inside.bound ≡ c.self.inside.bound
one_bound c =
    let bound = bound_is c.self.invariant c.self.view_is in
    let other_bound = bound_is c.other.invariant c.other.view_is in
    omega (arith, bound, other_bound, c.requires)

-- the words are those of the other set
items : (c : goal.After-copy_from_slice)
    → c.copy_from_slice.new.self.items ≡ c.other.inside.words.items
items c = c.copy_from_slice.ensures.items ∙ c.deref.ensures.value

pub invariant_of-self : goal.invariant_of-self
invariant_of-self c =
    subst (AreWords c.self.inside.bound) (sym (items c))
    (subst (λ (b : ℕ). AreWords b c.other.inside.words.items) (one_bound c) c.other.invariant)

pub returns : goal.returns
returns c =
    ap (flags_of c.self.inside.bound) (items c)
    ∙ subst (λ (b : ℕ). flags_of b c.other.inside.words.items ≡ c.args.other.now) (one_bound c)
    c.other.view_is
