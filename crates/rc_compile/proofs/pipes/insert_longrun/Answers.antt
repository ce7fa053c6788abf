use Rattle.std.proofs.Common.{◌≡◌, ◌∙◌, ◌⊎◌, ⊎_elim, inl, inr, ℕ, List, slice_get, Some, sym, subst}
use Rattle.std.proofs.Common.{true≢false}
use Rattle.rc_model.specs.Names.{Has, Holds}
use Rattle.rc_compile.proofs.pipes.insert_longrun.Goals as goal

pub returns-then-is_kind-clause-members : goal.returns-then-is_kind-clause-members
returns-then-is_kind-clause-members c s =
    let Text : List ℕ
    → Type 0 = λ text. Holds c.insert_named.new.set
    (λ s. Has c.args.set.now s ⊎ (slice_get c.args.services.now s ≡ Some text)) in
    let members = subst Text c.text.ensures.bytes c.insert_named.ensures.members s in
    let kind = c.is_kind.ensures.0 c.if-is_kind.true in (
      λ has. ⊎_elim (λ old. inl old) (λ at. inr (kind, at)) (members.0 has),
      λ either. members.1 (⊎_elim (λ old. inl old) (λ (longrun, at). inr at) either),
    )

pub returns-else-is_kind-clause-members : goal.returns-else-is_kind-clause-members
returns-else-is_kind-clause-members c s = (
  λ has. inl has,
  λ either. ⊎_elim (λ old. old)
      (λ (longrun, at). absurd
      (true≢false (sym (c.is_kind.ensures.1 longrun) ∙ c.if-is_kind.false))) either,
)
