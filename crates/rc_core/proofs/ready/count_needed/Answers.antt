use Rattle.std.proofs.Common.{◌≡◌, ◌<◌, ℕ, List, false, Contains, length, slice_index_or, subst}
use Rattle.std.proofs.Common.{arith}
use Rattle.rc_core.specs.Ready.{IsCount, IsCountUp}
use Rattle.rc_core.proofs.MoveLemmas.{needs_within}
use Rattle.rc_core.proofs.Passing.{none_count, next_counts, all_count}
use Rattle.rc_core.proofs.ready.count_needed.Goals as goal

pub loop-service-init : goal.loop-service-init
loop-service-init c =
    none_count (IsCountUp c.args.graph.now c.args.up.now) c.args.raise.now c.args.waits.now.items

pub count_in-requires-clause-known : goal.count_in-requires-clause-known
count_in-requires-clause-known c =
    needs_within c.args.graph.now c.needs.result.now c.in-Some.service
    (length c.args.up.now) c.needs.ensures.list c.requires.lists.known c.requires.up

pub loop-service-preserved : goal.loop-service-preserved
loop-service-preserved c =
    let low : c.in-Some.service < length c.loop-service.waits.items =
    omega (
      arith,
      c.in-Some.ensures.below.0,
      c.loop-service.invariant.bound,
      c.requires.bound,
      c.requires.raise,
    ) in
    next_counts (IsCountUp c.args.graph.now c.args.up.now) c.args.raise.now c.loop-service.at
    c.in-Some.service c.count_in.result c.args.waits.now.items c.loop-service.waits.items
    c.loop-service.invariant c.in-Some.ensures.some low
    (subst (λ (list : List ℕ).
    IsCount (λ t. Contains list t × (slice_index_or c.args.up.now t false ≡ false))
    c.count_in.result) c.needs.ensures.list c.count_in.ensures)

pub returns : goal.returns
returns c =
    all_count (IsCountUp c.args.graph.now c.args.up.now) c.args.raise.now c.loop-service.at
    c.args.waits.now.items c.loop-service.waits.items c.loop-service.invariant
    c.in_default.ensures.none
