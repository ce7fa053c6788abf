use Rattle.std.proofs.Common.{◌≡◌, ◌∙◌, ◌⊎◌, ⊎_elim, inl, inr, ℕ, List, slice_get, Some, sym, subst}
use Rattle.std.proofs.Common.{true≢false}
use Rattle.rc_model.specs.Names.{Has, Holds}
use Rattle.rc_compile.proofs.pipes.insert_if_paired.Goals as goal

pub returns-then-has_pair-clause-members : goal.returns-then-has_pair-clause-members
returns-then-has_pair-clause-members c s =
    let Text : List ℕ
    → Type 0 = λ text. Holds c.insert_named.new.set
    (λ s. Has c.args.set.now s ⊎ (slice_get c.args.names.now s ≡ Some text)) in
    let members = subst Text c.text.ensures.bytes c.insert_named.ensures.members s in
    let pair = c.has_pair.ensures.0 c.if-has_pair.true in (
      λ has. ⊎_elim (λ old. inl old) (λ at. inr (at, pair)) (members.0 has),
      λ either. members.1 (⊎_elim (λ old. inl old) (λ (at, paired). inr at) either),
    )

pub returns-else-has_pair-clause-members : goal.returns-else-has_pair-clause-members
returns-else-has_pair-clause-members c s = (
  λ has. inl has,
  λ either. ⊎_elim (λ old. old)
      (λ (at, paired). absurd
      (true≢false (sym (c.has_pair.ensures.1 paired) ∙ c.if-has_pair.false))) either,
)
