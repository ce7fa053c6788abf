use Rattle.std.proofs.Common.{◌≡◌, ◌∙◌, ◌<◌, ◌⊎◌, ℕ, Bool, List, [], Some, Contains, length}
use Rattle.std.proofs.Common.{slice_get, sym, ap, subst, arith}
use Rattle.std.proofs.lemmas.List.{get_or_default}
use Rattle.std.proofs.lemmas.Option.{slice_get_within}
use Rattle.rc_model.specs.Names.{Has, Holds}
use Rattle.rc_model.proofs.Members.{contains_at}
use Rattle.rc_compile.proofs.SetLists.{join_at, gain_none}
use Rattle.rc_compile.proofs.members.pipes.add_set.Goals as goal

pub returns-in-Some-clause-sets : goal.returns-in-Some-clause-sets
returns-in-Some-clause-sets c =
    let at : slice_get c.args.bundles.now c.in-Some.b ≡ Some c.args.name.now =
    c.in-Some.ensures.found ∙ ap (λ (x : List ℕ). Some x) c.text.ensures.bytes in
    let low : c.in-Some.b < length c.args.sets.now =
    omega (
      arith,
      slice_get_within c.args.bundles.now c.in-Some.b c.args.name.now at,
      c.requires.few,
    ) in
    join_at c.args.bundles.now c.args.sets.now c.in-Some.b c.args.name.now c.args.set.now
    c.join.new.self c.len-count.ensures.names.order at low
    (subst (λ (x : List Bool). Holds c.join.new.self (λ s. Has x s ⊎ Has c.args.set.now s))
    (get_or_default c.args.sets.now c.in-Some.b _ [] low) c.join.ensures.members)

pub returns-in_default-clause-sets : goal.returns-in_default-clause-sets
returns-in_default-clause-sets c =
    let Found : ℕ → ℕ → Type 0 =
    λ b s. (slice_get c.args.bundles.now b ≡ Some c.args.name.now) × Has c.args.set.now s in
    gain_none Found c.args.sets.now
    (λ b s found. c.in_default.ensures.missing
    (subst (Contains c.args.bundles.now) (sym c.text.ensures.bytes)
    (contains_at c.args.bundles.now b c.args.name.now found.0)))
