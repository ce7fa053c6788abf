use Rattle.std.proofs.Common.{◌≡◌, ℕ, ◌<◌, ◌≤◌, ◌+◌, length, slice_index, subst, sym, arith}
use Rattle.rc_model.specs.Names.{Has}
use Rattle.rc_set.specs.Listed.{ListsBelow}
use Rattle.rc_set.proofs.Listing.{none_listed, no_more_listed}
use Rattle.rc_core.proofs.Passing.{next_queued, next_passed_by, once_back, same_back}
use Rattle.rc_core.proofs.ready.queue_of.Goals as goal
use Rattle.rc_core.proofs.ready.queue_of.Goals.{then-waits-service-eq0, else-waits-service-eq0}

pub loop-service-init : goal.loop-service-init
loop-service-init c = record {
  low = omega arith;
  listing =
      let Waits : ℕ → Type 0 = λ s.
      Has c.args.planned.now s × (slice_index c.args.waits.now s ≡ 0) in
      subst (ListsBelow Waits 0) (sym c.in_ok-queue.ensures.items) (none_listed Waits);
  few = omega (arith, c.in_ok-queue.ensures.len);
  room = omega (arith, c.in_ok-queue.ensures.capacity);
}

pub bounds-waits-service : goal.bounds-waits-service
bounds-waits-service c = omega (arith, c.in-Some.ensures.below.0, c.requires.planned)

pub push_reserved-requires : goal.push_reserved-requires
push_reserved-requires c =
    let next = c.in-Some.ensures.some in
    omega (
      arith,
      c.in-Some.ensures.below.0,
      next.behind,
      c.loop-service.invariant.few,
      c.loop-service.invariant.room,
      c.requires.planned,
    )

pub loop-service-preserved : goal.loop-service-preserved
loop-service-preserved c =
    let service = c.in-Some.service in
    let next = c.in-Some.ensures.some in
    let before = c.loop-service.invariant in
    let within : service < length c.args.planned.now = c.in-Some.ensures.below.0 in
    let low : service + 1 ≤ length c.args.planned.now = omega arith in
    let Zero : ℕ → Type 0 = λ s. slice_index c.args.waits.now s ≡ 0 in
    elim c.if-waits-service-eq0.branch [
      | then-waits-service-eq0 w ↦ rw w.queue-is (record {
        low = low;
        listing = rw w.push_reserved.ensures.items
            (next_queued Zero c.args.planned.now c.loop-service.at service
            c.loop-service.queue.items before.listing next w.if-waits-service-eq0.true);
        few = omega (arith, w.push_reserved.ensures.len, before.few, next.behind);
        room = omega (arith, w.push_reserved.ensures.capacity, before.room);
      })
      | else-waits-service-eq0 w ↦ rw w.queue-is (record {
        low = low;
        listing =
            next_passed_by Zero c.args.planned.now c.loop-service.at service
            c.loop-service.queue.items before.listing next w.if-waits-service-eq0.false;
        few = omega (arith, before.few, next.behind);
        room = before.room;
      })
    ]

pub returns : goal.returns
returns c =
    let Waits : ℕ → Type 0 = λ s.
    Has c.args.planned.now s × (slice_index c.args.waits.now s ≡ 0) in
    let ids = c.loop-service.queue.items in
    let lists =
    no_more_listed Waits c.loop-service.at ids c.loop-service.invariant.listing
    (λ s from h. c.in_default.ensures.none s from h.0) in
    let back = c.reverse.new.self.items in
    let many = c.loop-service.queue.len in
    let long : length ids ≡ many = sym c.loop-service.queue.ok.0 in
    let back_long : length back ≡ many =
    omega (arith, c.reverse.new.self.ok.0, c.reverse.ensures.len) in
    record {
      once = once_back Waits ids back many lists long back_long c.reverse.ensures.by_index;
      ones = same_back Waits ids back many lists long back_long c.reverse.ensures.by_index;
      few =
          omega (
            arith,
            c.reverse.ensures.len,
            c.loop-service.invariant.few,
            c.loop-service.invariant.low,
            c.requires.planned,
          );
      room = omega (arith, c.reverse.ensures.capacity, c.loop-service.invariant.room);
    }
