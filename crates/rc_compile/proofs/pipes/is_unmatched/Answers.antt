use Rattle.std.proofs.Common.{◌≡◌, ◌∙◌, ◌↔◌, ⊎_elim, inl, inr, ℕ, List, Contains, Option, Some}
use Rattle.std.proofs.Common.{None, IsTrue, refl, sym, subst, true, true≢false}
use Rattle.std.specs.Option.{is_some}
use Rattle.rc_compile.specs.Book.{HasNamed}
use Rattle.rc_compile.proofs.Passing.{not_passed, passed_not}
use Rattle.rc_compile.proofs.pipes.is_unmatched.Goals as goal

pub returns-then-some_unpaired : goal.returns-then-some_unpaired
returns-then-some_unpaired c =
    let (name, there, fails) = c.if-some_unpaired.ensures.0 refl in
    let Has : List (List ℕ) → Type 0 = λ l. Contains l name in
    (λ _. (name, inr (subst Has c.deref.ensures.value there, fails)), λ _. refl)

some_there : (o : Option (List ℕ)) → is_some o ≡ true → (name : List ℕ) × (o ≡ Some name)
some_there None bad = absurd (true≢false (sym bad))
some_there (Some name) there = (name, refl)

pub returns-then-is_some : goal.returns-then-is_some
returns-then-is_some c =
    let passed = c.has_named.result in
    let Named : List ℕ → Type 0 =
    λ text. IsTrue passed ↔ HasNamed c.args.names.now c.args.matched.now text in
    let named = subst Named c.text.ensures.bytes c.has_named.ensures in
    let there =
    some_there c.args.definition.now.producer_for (sym c.is_some.ensures ∙ c.if-is_some.true) in
    let Has : List (List ℕ) → List ℕ → Type 0 = λ l name. Contains l name in (
      λ turned. (there.0, inl (there.1, λ has. passed_not passed turned (named.1 has))),
      λ (t, cases). ⊎_elim
          (λ (writes, fails). not_passed passed (λ found. fails (named.0 found)))
          (λ (reads, unpaired).
          let listed = subst (λ l. Has l t) (sym c.deref.ensures.value) reads in
          absurd (true≢false (sym (c.some_unpaired.ensures.1 (t, listed, unpaired))
          ∙ c.if-some_unpaired.false)))
          cases,
    )
