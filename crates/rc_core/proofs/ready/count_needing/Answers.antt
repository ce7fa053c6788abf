use Rattle.std.proofs.Common.{◌<◌, length, arith}
use Rattle.rc_core.specs.Ready.{IsCountDown}
use Rattle.rc_core.proofs.Counted.{same_count}
use Rattle.rc_core.proofs.MoveLemmas.{needers_within}
use Rattle.rc_core.proofs.Passing.{none_count, next_counts, all_count}
use Rattle.rc_core.proofs.ready.count_needing.Goals as goal

pub loop-service-init : goal.loop-service-init
loop-service-init c =
    none_count (IsCountDown c.args.graph.now c.args.up.now) c.args.lower.now c.args.waits.now.items

pub count_in-requires-clause-known : goal.count_in-requires-clause-known
count_in-requires-clause-known c =
    needers_within c.args.graph.now c.needed_by.result.now c.in-Some.service
    (length c.args.up.now) c.needed_by.ensures.same c.requires.up

pub loop-service-preserved : goal.loop-service-preserved
loop-service-preserved c =
    let low : c.in-Some.service < length c.loop-service.waits.items =
    omega (
      arith,
      c.in-Some.ensures.below.0,
      c.loop-service.invariant.bound,
      c.requires.bound,
      c.requires.lower,
    ) in
    next_counts (IsCountDown c.args.graph.now c.args.up.now) c.args.lower.now c.loop-service.at
    c.in-Some.service c.count_in.result c.args.waits.now.items c.loop-service.waits.items
    c.loop-service.invariant c.in-Some.ensures.some low
    (same_count _ _ c.count_in.result
    (λ t. (
      λ h. ((c.needed_by.ensures.same t).0 h.0, h.1),
      λ h. ((c.needed_by.ensures.same t).1 h.0, h.1),
    )) c.count_in.ensures)

pub returns : goal.returns
returns c =
    all_count (IsCountDown c.args.graph.now c.args.up.now) c.args.lower.now c.loop-service.at
    c.args.waits.now.items c.loop-service.waits.items c.loop-service.invariant
    c.in_default.ensures.none
