use Rattle.std.proofs.Common.{◌≡◌, ◌∙◌, ⊎_elim, inl, inr, false, sym}
use Rattle.rc_source.specs.Kinds.{is_hidden}
use Rattle.rc_source.proofs.folder.add_visible.Goals as goal

pub returns-in_ok-add : goal.returns-in_ok-add
returns-in_ok-add c = λ text.
    let seen : is_hidden c.args.name.now ≡ false =
    sym c.is_hidden.ensures ∙ c.if-not-is_hidden.true in
    let adds = c.in_ok-add.ensures.adds text in (
      λ there. ⊎_elim (λ old. inl old) (λ new. inr (new, seen)) (adds.0 there),
      λ either. adds.1 (⊎_elim (λ old. inl old) (λ new. inr new.0) either),
    )
