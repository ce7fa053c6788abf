use Rattle.std.proofs.Common.{◌≡◌, ◌<◌, true, false, inl, inr, refl, take, slice_index, arith}
use Rattle.std.proofs.lemmas.Bool.{cases_eq}
use Rattle.std.proofs.lemmas.List.{take_more, take_all}
use Rattle.rc_core.proofs.Arriving.{none_arrive, out_of_queue, fewer_queued, one_arrives, one_stays}
use Rattle.rc_core.proofs.Arriving.{not_yet}
use Rattle.rc_core.proofs.ready.Ready.arrive.Goals as goal
use Rattle.rc_core.proofs.ready.Ready.arrive.Goals.{then-waits_for_some, else-waits_for_some}

pub loop-service-init : goal.loop-service-init
loop-service-init c =
    record { arrived = none_arrive c.args.self.now; placed = c.requires.placed }

pub waits_for_some-requires : goal.waits_for_some-requires
waits_for_some-requires c =
    omega (
      arith,
      c.requires.known c.loop-service.service-index 0 c.loop-service-test.true,
      c.loop-service.invariant.arrived.meets.bound,
    )

pub wait_for_less-requires-clause-known : goal.wait_for_less-requires-clause-known
wait_for_less-requires-clause-known c =
    omega (
      arith,
      c.requires.known c.loop-service.service-index 0 c.loop-service-test.true,
      c.loop-service.invariant.arrived.meets.bound,
    )

pub wait_for_less-requires-clause-room : goal.wait_for_less-requires-clause-room
wait_for_less-requires-clause-room c one =
    let k = c.loop-service.service-index in
    let list = c.args.list.now in
    let before = c.loop-service.invariant.arrived in
    let out =
    not_yet list k c.args.self.now c.loop-service.self before c.requires.list
    c.loop-service-test.true in
    let fewer =
    fewer_queued before.those c.args.self.now.waits.items c.loop-service.self.waits.items
    c.args.self.now.queue c.loop-service.self.queue (slice_index list k) c.requires.queue
    before.meets out (c.requires.known k 0 c.loop-service-test.true) one in
    omega (
      arith,
      fewer,
      c.requires.queue.room,
      before.capacity,
      c.loop-service.self.queue.ok.0,
    )

pub wait_for_less-requires-clause-few : goal.wait_for_less-requires-clause-few
wait_for_less-requires-clause-few c one =
    let k = c.loop-service.service-index in
    let list = c.args.list.now in
    let before = c.loop-service.invariant.arrived in
    let out =
    not_yet list k c.args.self.now c.loop-service.self before c.requires.list
    c.loop-service-test.true in
    let fewer =
    fewer_queued before.those c.args.self.now.waits.items c.loop-service.self.waits.items
    c.args.self.now.queue c.loop-service.self.queue (slice_index list k) c.requires.queue
    before.meets out (c.requires.known k 0 c.loop-service-test.true) one in
    omega (arith, fewer, before.meets.bound, c.loop-service.self.queue.ok.0)

pub wait_for_less-requires-clause-out : goal.wait_for_less-requires-clause-out
wait_for_less-requires-clause-out c =
    let k = c.loop-service.service-index in
    let list = c.args.list.now in
    let before = c.loop-service.invariant.arrived in
    let out =
    not_yet list k c.args.self.now c.loop-service.self before c.requires.list
    c.loop-service-test.true in
    out_of_queue before.those c.args.self.now.waits.items c.args.self.now.queue
    c.loop-service.self.queue c.loop-service.self.waits.items (slice_index list k) c.requires.queue
    before.meets out
    (omega (arith, before.meets.same (slice_index list k) out, c.if-waits_for_some.ensures.0 refl))

pub loop-service-preserved : goal.loop-service-preserved
loop-service-preserved c =
    let k = c.loop-service.service-index in
    let list = c.args.list.now in
    let before = c.loop-service.invariant.arrived in
    let out =
    not_yet list k c.args.self.now c.loop-service.self before c.requires.list
    c.loop-service-test.true in
    let here = before.meets.same (slice_index list k) out in
    rw (take_more list k 0 c.loop-service-test.true) (elim c.if-waits_for_some.branch [
      | then-waits_for_some w ↦
          let now : 0 < slice_index c.loop-service.self.waits.items (slice_index list k) =
          w.if-waits_for_some.ensures.0 refl in
          rw w.self-is (record {
            arrived =
                one_arrives (take k list) c.args.self.now c.loop-service.self
                w.wait_for_less.new.self (slice_index list k) before out
                (c.requires.known k 0 c.loop-service-test.true) (omega (arith, here, now))
                w.wait_for_less.ensures.missing w.wait_for_less.ensures.last
                w.wait_for_less.ensures.more w.wait_for_less.ensures.capacity;
            placed = w.wait_for_less.ensures.placed;
          })
      | else-waits_for_some w ↦ rw w.self-is (record {
        arrived =
            one_stays (take k list) c.args.self.now c.loop-service.self (slice_index list k) before
            (elim (cases_eq (slice_index c.args.self.now.waits.items (slice_index list k)) 0) [
              | inl none ↦ none
              | inr some ↦ absurd
                  (let bad : false ≡ true =
                  w.if-waits_for_some.ensures.1 (omega (arith, here, some)) in cc)
            ]);
        placed = c.loop-service.invariant.placed;
      })
    ])

pub returns-clause-arrived : goal.returns-clause-arrived
returns-clause-arrived c =
    rw (take_all c.loop-service.service-index c.args.list.now
    c.loop-service-test.false) at c.loop-service.invariant.arrived
