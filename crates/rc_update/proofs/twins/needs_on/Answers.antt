use Rattle.std.proofs.Common.{◌∙◌, ◌<◌, ℕ, List, [], ap, get_or, length, refl, slice_index_or}
use Rattle.std.proofs.Common.{arith}
use Rattle.std.proofs.lemmas.Option.{slice_get_within}
use borrow.Author.Count.{below_more}
use Rattle.rc_update.specs.Carrying.{IsTwin}
use Rattle.rc_update.specs.Conversions.{conversions_of}
use Rattle.rc_update.proofs.CarryingLemmas.{one_twin}
use Rattle.rc_update.proofs.NeedsLemmas.{all_lead, led_more, needs_low}
use Rattle.rc_update.proofs.twins.needs_on.Goals as goal

pub twin-requires : goal.twin-requires
twin-requires c =
    let d = c.args.old.now in
    needs_low d d.names c.needs-needs.result.now c.args.id c.loop-place.place
    c.graph.ensures.database refl
    (c.needs-needs.ensures.list
    ∙ ap (λ (g : List (List ℕ)). slice_index_or g c.args.id []) c.graph.ensures.graph)
    c.loop-place-test.true

pub insert-requires : goal.insert-requires
insert-requires c =
    let found = c.in-Some.ensures.found in
    let low : c.in-Some.other < length c.args.new.now.names =
    slice_get_within c.args.new.now.names c.in-Some.other found.1 found.4 in
    omega (arith, low, c.loop-place.invariant.bound)

pub loop-place-preserved : goal.loop-place-preserved
loop-place-preserved c =
    let old = c.args.old.now in
    let new = c.args.new.now in
    let list = conversions_of c.args.list.now in
    let xs = c.needs-needs.result.now in
    let i = c.loop-place.place in
    let other = c.in-Some.other in
    let found = c.in-Some.ensures.found in
    record {
      bound = c.insert.ensures.bound ∙ c.loop-place.invariant.bound;
      members = led_more (IsTwin old new list) xs i other c.loop-place.set c.insert.new.self
          c.loop-place.invariant.members c.insert.ensures.members found
          (λ u twin.
          one_twin old new list (get_or xs i 0) u other c.twin.ensures.database twin found);
      all = below_more (λ k. (u : ℕ) × IsTwin old new list (get_or xs k 0) u) i
          c.loop-place.invariant.all (other, found);
    }

pub returns-clause-all : goal.returns-clause-all
returns-clause-all c =
    all_lead (IsTwin c.args.old.now c.args.new.now (conversions_of c.args.list.now))
    c.needs-needs.result.now (slice_index_or c.args.old.now.needs c.args.id [])
    c.loop-place.place
    (c.needs-needs.ensures.list
    ∙ ap (λ (g : List (List ℕ)). slice_index_or g c.args.id []) c.graph.ensures.graph)
    c.loop-place-test.false c.loop-place.invariant.all
