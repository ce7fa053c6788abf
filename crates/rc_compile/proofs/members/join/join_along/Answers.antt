use Rattle.std.proofs.Common.{◌≡◌, ◌∙◌, ◌<◌, length, take, get_or, length-set, arith}
use Rattle.std.proofs.lemmas.List.{take_more}
use Rattle.std.proofs.lemmas.List.Elements.{All-set}
use Rattle.rc_compile.proofs.Joins.{one_joined, not_passed, needed_passed, ordered_within}
use Rattle.rc_compile.proofs.Joins.{listed_within, needs_listed, all_joined}
use Rattle.rc_compile.proofs.members.join.join_along.Goals as goal

pub needs-requires : goal.needs-requires
needs-requires c =
    ordered_within c.args.graph.now _ c.loop-s.s-index c.order-order.ensures.order
    c.loop-s-test.true

pub joined-requires-clause-id : goal.joined-requires-clause-id
joined-requires-clause-id c =
    let low : get_or c.order-order.result.now c.loop-s.s-index 0 < length c.args.graph.now =
    ordered_within c.args.graph.now _ c.loop-s.s-index c.order-order.ensures.order
    c.loop-s-test.true in
    omega (arith, c.loop-s.invariant.few, c.requires.few)

pub joined-requires-clause-known : goal.joined-requires-clause-known
joined-requires-clause-known c =
    listed_within c.args.graph.now _ c.loop-s.s-index _ (length c.loop-s.sets)
    c.order-order.ensures.order c.loop-s-test.true c.needs.ensures.list
    (omega (arith, c.loop-s.invariant.few, c.requires.few))

pub bounds-sets-s : goal.bounds-sets-s
bounds-sets-s c =
    let low : get_or c.order-order.result.now c.loop-s.s-index 0 < length c.args.graph.now =
    ordered_within c.args.graph.now _ c.loop-s.s-index c.order-order.ensures.order
    c.loop-s-test.true in
    omega (arith, c.loop-s.invariant.few, c.requires.few)

pub loop-s-preserved : goal.loop-s-preserved
loop-s-preserved c =
    let order = c.order-order.result.now in
    let s = get_or order c.loop-s.s-index 0 in
    let low : s < length c.args.graph.now = ordered_within c.args.graph.now order c.loop-s.s-index
    c.order-order.ensures.order c.loop-s-test.true in
    record {
      few = length-set c.loop-s.sets s c.in_ok-set.set ∙ c.loop-s.invariant.few;
      bounds =
          All-set (λ set. length set ≡ c.args.bound) c.loop-s.sets s c.in_ok-set.set
          c.in_ok-set.ensures.bound c.loop-s.invariant.bounds;
      sets = rw (take_more order c.loop-s.s-index 0 c.loop-s-test.true)
          (one_joined c.args.graph.now (take c.loop-s.s-index order) c.needs.result.now
          c.args.sets.now c.loop-s.sets s c.in_ok-set.set c.loop-s.invariant.sets
          (omega (arith, c.loop-s.invariant.few, c.requires.few))
          (not_passed c.args.graph.now order c.loop-s.s-index c.order-order.ensures.order
          c.loop-s-test.true)
          (needs_listed c.args.graph.now s c.needs.result.now c.needs.ensures.list)
          (needed_passed c.args.graph.now order c.loop-s.s-index c.order-order.ensures.order
          c.loop-s-test.true)
          c.in_ok-set.ensures.members);
    }

pub returns-clause-sets : goal.returns-clause-sets
returns-clause-sets c s within =
    all_joined c.args.graph.now c.order-order.result.now c.loop-s.s-index c.args.sets.now
    c.loop-s.sets c.order-order.ensures.order c.loop-s-test.false c.loop-s.invariant.sets s
    (omega (arith, c.requires.few))
