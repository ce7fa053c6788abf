use Rattle.std.proofs.Common.{◌≡◌, ◌∙◌, ◌<◌, List, ℕ, length, get_or, ap, sym, subst, arith}
use Rattle.std.proofs.lemmas.List.{length-set}
use Rattle.std.proofs.lemmas.Option.{slice_get-get_or}
use Rattle.rc_graph.specs.Order.{IsOrder}
use Rattle.rc_db.proofs.Pipelines.{EndsUpTo, ends_known, ends_next, ends_all, order_within}
use Rattle.rc_db.proofs.pipeline.last_consumers.Goals as goal

pub loop-s-init : goal.loop-s-init
loop-s-init c =
    let long : length c.names.result.now ≡ length c.args.db.now.names =
    ap length c.names.ensures.names in
    record {
      bound = omega (arith, c.in_ok-ends.ensures.len);
      ends =
          λ k s none. absurd (omega arith);
    }

pub last_consumer-end-requires-clause-bound : goal.last_consumer-end-requires-clause-bound
last_consumer-end-requires-clause-bound c =
    ap length c.deref.ensures.value ∙ c.loop-s.invariant.bound

pub last_consumer-end-requires-clause-service : goal.last_consumer-end-requires-clause-service
last_consumer-end-requires-clause-service c =
    order_within c.args.db.now c.graph.result.now c.order-order.result.now c.loop-s.s-index
    c.graph.ensures.database c.graph.ensures.graph c.order-order.ensures.order (omega arith)

pub last_consumer-end-requires-clause-ends : goal.last_consumer-end-requires-clause-ends
last_consumer-end-requires-clause-ends c =
    let order = c.order-order.result.now in
    let Ordered : List (List ℕ) → Type 0 = λ needs. IsOrder needs order in
    let Known : List ℕ → Type 0 = λ ends. EndsUpTo c.args.db.now order ends c.loop-s.s-index in
    ends_known c.args.db.now order c.deref.result.now c.loop-s.s-index
    (get_or order c.loop-s.s-index 0)
    (subst Ordered c.graph.ensures.graph c.order-order.ensures.order)
    (slice_get-get_or order c.loop-s.s-index 0 (omega arith))
    (subst Known (sym c.deref.ensures.value) c.loop-s.invariant.ends) c.graph.ensures.database

pub index_mut-requires : goal.index_mut-requires
index_mut-requires c =
    let low : get_or c.order-order.result.now c.loop-s.s-index 0 < length c.args.db.now.names =
    order_within c.args.db.now c.graph.result.now c.order-order.result.now c.loop-s.s-index
    c.graph.ensures.database c.graph.ensures.graph c.order-order.ensures.order (omega arith) in
    let bound : length c.loop-s.ends.items ≡ length c.args.db.now.names =
    c.loop-s.invariant.bound in
    omega arith

pub loop-s-preserved : goal.loop-s-preserved
loop-s-preserved c =
    let order = c.order-order.result.now in
    let Ordered : List (List ℕ) → Type 0 = λ needs. IsOrder needs order in
    let low : get_or order c.loop-s.s-index 0 < length c.args.db.now.names =
    order_within c.args.db.now c.graph.result.now order c.loop-s.s-index c.graph.ensures.database
    c.graph.ensures.graph c.order-order.ensures.order (omega arith) in
    let bound : length c.loop-s.ends.items ≡ length c.args.db.now.names =
    c.loop-s.invariant.bound in
    record {
      bound =
          length-set c.loop-s.ends.items (get_or order c.loop-s.s-index 0)
          c.last_consumer-end.result ∙ bound;
      ends =
          ends_next c.args.db.now order c.loop-s.ends.items c.loop-s.s-index
          (get_or order c.loop-s.s-index 0)
          (subst Ordered c.graph.ensures.graph c.order-order.ensures.order)
          (slice_get-get_or order c.loop-s.s-index 0 (omega arith))
          c.loop-s.invariant.ends c.last_consumer-end.result (omega arith)
          c.last_consumer-end.ensures;
    }

pub returns-clause-ends : goal.returns-clause-ends
returns-clause-ends c s within =
    let order = c.order-order.result.now in
    let Ordered : List (List ℕ) → Type 0 = λ needs. IsOrder needs order in
    let fits : length c.args.db.now.needs ≡ length c.args.db.now.names =
    c.graph.ensures.database.fit.graph in
    ends_all c.args.db.now order c.loop-s.ends.items c.loop-s.s-index
    (subst Ordered c.graph.ensures.graph c.order-order.ensures.order)
    c.loop-s.invariant.ends (omega arith) s (omega arith)

pub returns-clause-bound : goal.returns-clause-bound
returns-clause-bound c = c.loop-s.invariant.bound
