use Rattle.std.proofs.Common.{◌≡◌, ◌⊎◌, List, ℕ, Contains, Some, subst}
use Rattle.rc_compile.proofs.Mentioned.{Added, all_four}
use Rattle.rc_compile.proofs.unknown.unknown_in.Goals as goal

pub returns : goal.returns
returns c =
    let d = c.args.definition.now in
    let Not : List ℕ → Type 0 =
    λ name. Contains c.args.services.now name ⊎ Contains c.args.bundles.now name → ⊥ in
    let u0 = c.new-unknown.result.items in
    let u1 = c.add_unknown.new.unknown.items in
    let u2 = c.add_unknown-2.new.unknown.items in
    let u3 = c.add_unknown-3.new.unknown.items in
    let A : List (List ℕ) → Type 0 = λ l. Added u0 (λ name. Contains l name × Not name) u1 in
    let B : List (List ℕ) → Type 0 = λ l. Added u1 (λ name. Contains l name × Not name) u2 in
    let C : List (List ℕ) → Type 0 = λ l. Added u2 (λ name. Contains l name × Not name) u3 in
    all_four u0 u1 u2 u3 c.add_producer.new.unknown.items (Contains d.dependencies.items)
    (Contains d.contents.items) (Contains d.consumer_for.items) (λ name. d.producer_for ≡ Some name)
    Not
    c.new-unknown.ensures.items (subst A c.deref.ensures.value c.in_ok-add_unknown.ensures)
    (subst B c.deref-2.ensures.value c.in_ok-add_unknown-2.ensures)
    (subst C c.deref-3.ensures.value c.in_ok-add_unknown-3.ensures) c.in_ok-add_producer.ensures
