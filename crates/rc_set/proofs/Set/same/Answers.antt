use Rattle.std.proofs.Common.{◌≡◌, ℕ, List, length, sym, ap, ◌∙◌, subst, arith}
use Rattle.rc_set.specs.Words.{has_bit, flags_of, AreWords}
use Rattle.rc_set.proofs.Flags.{bound_is, same_flags}
use Rattle.rc_set.proofs.Set.same.Goals as goal

pub are_same-requires : goal.are_same-requires
are_same-requires c =
    let bound = bound_is c.self.invariant c.self.view_is in
    let other_bound = bound_is c.other.invariant c.other.view_is in
    omega (
      arith,
      bound,
      other_bound,
      c.self.invariant.enough,
      c.self.invariant.few,
      c.other.invariant.enough,
      c.other.invariant.few,
      ap length c.deref.ensures.value,
      ap length c.deref-2.ensures.value,
    )

pub returns : goal.returns
returns c =
    let words = c.self.inside.words.items in
    let others = c.other.inside.words.items in
    let bound = bound_is c.self.invariant c.self.view_is in
    let other_bound = bound_is c.other.invariant c.other.view_is in
    let one_bound : c.other.inside.bound ≡ c.self.inside.bound =
    omega (arith, bound, other_bound, c.requires) in
    let other_view =
    subst (λ (b : ℕ). flags_of b others ≡ c.args.other.now) one_bound c.other.view_is in
    let other_are = subst (λ (b : ℕ). AreWords b others) one_bound c.other.invariant in
    let same = same_flags c.self.inside.bound words others c.self.invariant other_are in
    let here = λ (s : ℕ). ap (λ (ws : List ℕ). has_bit ws s) c.deref.ensures.value in
    let there = λ (s : ℕ). ap (λ (ws : List ℕ). has_bit ws s) c.deref-2.ensures.value in (
      λ yes. sym c.self.view_is ∙ same.1 (λ s. sym (here s) ∙ c.are_same.ensures.0 yes s ∙ there s)
          ∙ other_view,
      λ e. c.are_same.ensures.1
          (λ s. here s ∙ same.0 (c.self.view_is ∙ e ∙ sym other_view) s ∙ sym (there s)),
    )
