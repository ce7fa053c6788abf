use Rattle.std.proofs.Common.{◌∙◌, ◌<◌, ℕ, List, All, length, sym, ap, subst, arith}
use Rattle.rc_graph.specs.Order.{AreDistinct}
use Rattle.rc_core.specs.Ready.{Queues, ArePlaces}
use Rattle.rc_core.proofs.Placed.{queued_known}
use Rattle.rc_core.proofs.ready.Ready.new.Goals as goal

pub places_of-requires-clause-once : goal.places_of-requires-clause-once
places_of-requires-clause-once c =
    subst AreDistinct (sym c.deref-2.ensures.value) c.in_ok-queue.ensures.once

pub places_of-requires-clause-known : goal.places_of-requires-clause-known
places_of-requires-clause-known c =
    subst (All (λ s. s < c.len.result)) (sym c.deref-2.ensures.value)
    (queued_known c.deref.result.now c.args.planned.now c.in_ok-queue.queue c.len.result
    c.in_ok-queue.ensures (omega (arith, c.requires.planned, c.len.ensures.count)))

pub places_of-requires-clause-few : goal.places_of-requires-clause-few
places_of-requires-clause-few c =
    omega (
      arith,
      ap length c.deref-2.ensures.value,
      c.in_ok-queue.ensures.few,
      c.in_ok-queue.queue.ok.0,
      ap length c.deref.ensures.value,
      c.in_ok-waits.ensures.bound,
      c.requires.lists.few,
    )

pub returns : goal.returns
returns c =
    let queued : Queues c.in_ok-waits.waits.items c.args.planned.now c.in_ok-queue.queue =
    subst (λ (waits : List ℕ). Queues waits c.args.planned.now c.in_ok-queue.queue)
    c.deref.ensures.value c.in_ok-queue.ensures in
    record {
      bound = c.in_ok-waits.ensures.bound;
      counts = c.in_ok-waits.ensures.counts;
      queue = queued;
      placed = record {
        bound =
            c.in_ok-places.ensures.bound ∙ c.len.ensures.count ∙ sym c.in_ok-waits.ensures.bound;
        small = omega (arith, c.in_ok-waits.ensures.bound, c.requires.lists.few);
        known =
            queued_known c.in_ok-waits.waits.items c.args.planned.now c.in_ok-queue.queue
            (length c.in_ok-waits.waits.items) queued
            (omega (arith, c.requires.planned, c.in_ok-waits.ensures.bound));
        places =
            subst (λ (queue : List ℕ). ArePlaces queue c.in_ok-places.places.items)
            c.deref-2.ensures.value c.in_ok-places.ensures.places;
      };
    }
