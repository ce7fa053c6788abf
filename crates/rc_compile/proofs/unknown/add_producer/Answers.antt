use Rattle.std.proofs.Common.{◌≡◌, ◌∙◌, ◌⊎◌, List, ℕ, Contains, Some, sym, ap}
use Rattle.std.proofs.lemmas.Result.{on_ok_weaker}
use Rattle.rc_compile.proofs.Mentioned.{added_as, added_none}
use Rattle.rc_compile.proofs.unknown.add_producer.Goals as goal

pub returns-in-Some : goal.returns-in-Some
returns-in-Some c =
    let name = c.in-Some.name in
    let Not : List ℕ → Type 0 =
    λ n. Contains c.args.services.now n ⊎ Contains c.args.bundles.now n → ⊥ in
    on_ok_weaker c.add_if_unknown.result
    (λ adds. added_as c.args.unknown.now.items c.add_if_unknown.new.unknown.items
    (λ n. (n ≡ name) × Not n) (λ n. (c.args.definition.now.producer_for ≡ Some n) × Not n) adds
    (λ n. (
      λ (same, not). (c.in-Some.is ∙ ap (λ x. Some x) (sym same), not),
      λ (writes, not). (one_name n writes, not),
    )))
    c.add_if_unknown.ensures
  where
    one_name : (n : List ℕ) → c.args.definition.now.producer_for ≡ Some n → n ≡ c.in-Some.name
    one_name n writes = cc (writes, c.in-Some.is)

pub returns-in-None : goal.returns-in-None
returns-in-None c =
    let Not : List ℕ → Type 0 =
    λ n. Contains c.args.services.now n ⊎ Contains c.args.bundles.now n → ⊥ in
    added_none c.args.unknown.now.items (λ n. (c.args.definition.now.producer_for ≡ Some n) × Not n)
    (λ n (writes, not). cc (writes, c.in-None.is))
