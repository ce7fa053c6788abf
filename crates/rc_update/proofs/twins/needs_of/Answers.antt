use Rattle.std.proofs.Common.{◌∙◌, ◌<◌, ℕ, List, [], ap, get_or, length, refl, slice_index_or}
use Rattle.std.proofs.Common.{arith}
use Rattle.rc_update.proofs.NeedsLemmas.{needs_low}
use Rattle.rc_update.proofs.twins.needs_of.Goals as goal

pub insert-requires : goal.insert-requires
insert-requires c =
    let d = c.args.db.now in
    let xs = c.needs-needs.result.now in
    let low : get_or xs c.loop-place.place 0 < length d.names =
    needs_low d d.names xs c.args.id c.loop-place.place c.names.ensures.database refl
    (c.needs-needs.ensures.list
    ∙ ap (λ (g : List (List ℕ)). slice_index_or g c.args.id []) c.graph.ensures.graph)
    c.loop-place-test.true in
    omega (arith, c.loop-place.invariant.bound)
