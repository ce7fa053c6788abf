use Rattle.std.proofs.Common.{◌∙◌, ap, length, map, sym, subst}
use Rattle.std.proofs.lemmas.List.{take_at}
use Rattle.rc_source.specs.Said.{meaning_of}
use Rattle.rc_compile.specs.Standing.{HoldsName}
use Rattle.rc_compile.specs.Joining.{AllWithin}
use Rattle.rc_compile.specs.Sets.{AreSetsOf}
use Rattle.rc_compile.proofs.SetLists.{standing_sets}
use Rattle.rc_compile.proofs.members.sets.bundle_sets.Goals as goal

pub held_sets-requires-clause-meanings : goal.held_sets-requires-clause-meanings
held_sets-requires-clause-meanings c = c.requires.meanings

pub held_sets-requires-clause-services : goal.held_sets-requires-clause-services
held_sets-requires-clause-services c = c.requires.services

pub held_sets-requires-clause-piped : goal.held_sets-requires-clause-piped
held_sets-requires-clause-piped c = c.requires.piped

pub join_along-requires-clause-few : goal.join_along-requires-clause-few
join_along-requires-clause-few c =
    ap length c.deref_mut.ensures.value ∙ (c.in_ok-sets.ensures.few ∙ sym c.requires.graph.few)

pub join_along-requires-clause-bounds : goal.join_along-requires-clause-bounds
join_along-requires-clause-bounds c =
    subst (λ n. AllWithin n c.deref_mut.result.now) (sym c.len-bound.ensures.len)
    (subst (AllWithin (length c.args.services.now)) (sym c.deref_mut.ensures.value)
    c.in_ok-sets.ensures.bounds)

pub returns-clause-few : goal.returns-clause-few
returns-clause-few c =
    rw (take_at _ _ _ (c.join_along.auto.sets ∙ c.deref_mut.ensures.len))
    (c.join_along.ensures.few ∙ (ap length c.deref_mut.ensures.value ∙ c.in_ok-sets.ensures.few))

pub returns-clause-bounds : goal.returns-clause-bounds
returns-clause-bounds c =
    rw (take_at _ _ _ (c.join_along.auto.sets ∙ c.deref_mut.ensures.len))
    (subst (λ n. AllWithin n c.join_along.new.sets) c.len-bound.ensures.len
    c.in_ok-join_along.ensures.bounds)

pub returns-clause-sets : goal.returns-clause-sets
returns-clause-sets c =
    let ms = map meaning_of c.args.definitions.now in
    rw (take_at _ _ _ (c.join_along.auto.sets ∙ c.deref_mut.ensures.len))
    (standing_sets ms c.args.services.now c.args.bundles.now c.args.graph.now c.deref_mut.result.now
    c.join_along.new.sets c.requires.meanings c.requires.apart c.requires.services
    c.requires.bundles c.requires.graph
    (subst (AreSetsOf (HoldsName ms) c.args.bundles.now c.args.services.now)
    (sym c.deref_mut.ensures.value) c.in_ok-sets.ensures.sets)
    (ap length c.deref_mut.ensures.value ∙ c.in_ok-sets.ensures.few)
    c.in_ok-join_along.ensures.sets)
