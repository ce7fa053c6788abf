use Rattle.std.proofs.Common.{◌≡◌, ◌↔◌, ◌<◌, ◌≤◌, ℕ, List, [], Contains, length, slice_index}
use Rattle.std.proofs.Common.{slice_index_or, arith, subst}
use Rattle.std.proofs.lemmas.List.{length-map}
use Rattle.std.proofs.lemmas.List.Elements.{Contains-get_or}
use Rattle.rc_model.specs.Names.{IsAscending}
use Rattle.rc_model.specs.Graph.{Needs}
use Rattle.rc_graph.specs.Rows.{rows}
use Rattle.rc_graph.proofs.RowLemmas.{length-rows, row_is}
use Rattle.rc_graph.proofs.Orders.{ready, misses_within, next_known, next_read, needing}
use Rattle.rc_graph.proofs.Orders.{needing_miss, one_passed, placing_room}
use Rattle.rc_graph.proofs.order.placing_of.Goals as goal
use Rattle.rc_graph.proofs.order.placing_of.Goals.{After-as_slice}

pub bounds-needed_by-service : goal.bounds-needed_by-service
bounds-needed_by-service c =
    let ahead : c.loop-passed.passed < length c.loop-passed.placing.order.items =
    omega (arith, c.len.ensures, c.loop-passed.placing.order.ok.0) in
    let low : slice_index c.loop-passed.placing.order.items c.loop-passed.passed
    < length (rows c.args.needs.now) = next_known _ _ _ _ c.loop-passed.invariant ahead in
    omega (
      arith,
      next_read _ _ _ ahead c.index-service.ensures,
      c.requires.reverse.few,
      length-rows c.args.needed_by.now,
    )

-- one is not passed
ahead : (c : After-as_slice) → c.loop-passed.passed < length c.loop-passed.placing.order.items
ahead c = omega (arith, c.len.ensures, c.loop-passed.placing.order.ok.0)

-- the list of those that need it
row : (c : After-as_slice)
    → slice_index_or (rows c.args.needed_by.now) c.index-service.result.now []
    ≡ c.as_slice.result.now
row c =
    let low : slice_index c.loop-passed.placing.order.items c.loop-passed.passed
    < length (rows c.args.needs.now) = next_known _ _ _ _ c.loop-passed.invariant (ahead c) in
    row_is c.args.needed_by.now c.index-service.result.now c.index-needed_by-service.result
    c.as_slice.result.now
    (omega (
      arith,
      next_read _ _ _ (ahead c) c.index-service.ensures,
      c.requires.reverse.few,
      length-rows c.args.needed_by.now,
    )) c.index-needed_by-service.is c.as_slice.ensures

listed : (c : After-as_slice) → (s : ℕ)
    → Contains c.as_slice.result.now s
    ↔ Needs (rows c.args.needs.now) s
    (slice_index c.loop-passed.placing.order.items c.loop-passed.passed)
listed c =
    rw (next_read _ _ _ (ahead c) c.index-service.ensures)
    (needing (rows c.args.needs.now) (rows c.args.needed_by.now) c.as_slice.result.now
    c.index-service.result.now c.requires.reverse (row c))

missed : (c : After-as_slice) (k d : ℕ) → k < length c.as_slice.result.now
    → 0 < slice_index c.loop-passed.placing.missing.items (slice_index_or c.as_slice.result.now k d)
missed c k d within =
    needing_miss _ _ _ _ _ c.requires.lists c.loop-passed.invariant (ahead c)
    ((listed c _).0 (Contains-get_or c.as_slice.result.now k d within))

pub in_need_of_none-requires : goal.in_need_of_none-requires
in_need_of_none-requires c =
    rw (
      c.deref.ensures.value,
      c.in_ok-missing.ensures,
      length-map (rows c.args.needs.now) (λ (list : List ℕ). length list),
    ) c.requires.lists.few

pub loop-passed-init : goal.loop-passed-init
loop-passed-init c =
    ready _ _ _ c.in_ok-missing.ensures (rw c.deref.ensures.value at c.in_ok-order.ensures)

pub meet_all-requires-clause-once : goal.meet_all-requires-clause-once
meet_all-requires-clause-once c =
    subst IsAscending (row (goal.at.meet_all-requires-clause-once c).After-as_slice)
    (c.requires.reverse.ascending c.index-service.result.now)

pub meet_all-requires-clause-missing : goal.meet_all-requires-clause-missing
meet_all-requires-clause-missing c =
    missed (goal.at.meet_all-requires-clause-missing c).After-as_slice

pub meet_all-requires-clause-known : goal.meet_all-requires-clause-known
meet_all-requires-clause-known c k d within =
    misses_within _ _ (missed (goal.at.meet_all-requires-clause-known c).After-as_slice k d within)

pub loop-passed-preserved : goal.loop-passed-preserved
loop-passed-preserved c =
    let at = (goal.at.loop-passed-preserved c).After-as_slice in
    one_passed _ _ _ _ _ _ _ c.requires.lists c.loop-passed.invariant (ahead at) (listed at)
    c.in_ok-meet_all.ensures

pub loop-passed-smaller : goal.loop-passed-smaller
loop-passed-smaller c =
    let room : length c.loop-passed.placing.order.items ≤ length (rows c.args.needs.now) =
    placing_room _ _ _ _ c.loop-passed.invariant in
    omega (arith, c.len.ensures, c.loop-passed.placing.order.ok.0)
