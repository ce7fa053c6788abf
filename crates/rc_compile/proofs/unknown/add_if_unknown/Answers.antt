use Rattle.std.proofs.Common.{◌≡◌, ◌∙◌, ◌⊎◌, List, ℕ, Contains, sym, subst, true≢false}
use Rattle.rc_compile.proofs.Mentioned.{added_one}
use Rattle.rc_compile.proofs.unknown.add_if_unknown.Goals as goal

pub returns-in_ok-push : goal.returns-in_ok-push
returns-in_ok-push c =
    let Not : List ℕ → Type 0 =
    λ name. Contains c.args.services.now name ⊎ Contains c.args.bundles.now name → ⊥ in
    let copy = c.in_ok-copy.field-0 in
    let unknown : Not c.args.name.now = subst Not c.text.ensures.bytes
    (λ known. true≢false (sym (c.is_known.ensures.1 known) ∙ c.if-not-is_known.true)) in
    added_one c.args.unknown.now.items c.push.new.self.items copy
    (λ other. (other ≡ c.args.name.now) × Not other) c.in_ok-push.ensures.items
    (λ x. (
      λ (same, not). same ∙ sym c.in_ok-copy.ensures,
      λ same. (same ∙ c.in_ok-copy.ensures, subst Not (sym (same ∙ c.in_ok-copy.ensures)) unknown),
    ))
