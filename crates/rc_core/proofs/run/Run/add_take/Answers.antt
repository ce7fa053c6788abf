use Rattle.std.proofs.Common.{subst, sym}
use Rattle.rc_model.specs.declared.Event.TheVariants.{Take}
use Rattle.rc_model.specs.Run.{IsLegal}
use Rattle.rc_core.specs.Settled.{RunSoFar}
use Rattle.rc_core.proofs.Places.{places}
use Rattle.rc_core.proofs.Keeping.{kept_on, room_for}
use Rattle.rc_core.proofs.Readying.{can_note_ready, ready_noted}
use Rattle.rc_core.proofs.run.Run.add_take.Goals as goal

pub note_take-requires : goal.note_take-requires
note_take-requires c =
    let take = Take c.args.worker c.args.service in
    let legal =
    subst (λ (r : RunSoFar). IsLegal r.course r.events take) (sym c.self.view_is) c.requires in
    let kept = c.self.invariant.0 in
    places _ _ _ take kept.course kept.run kept.tables legal

pub take_out-requires-clause-queued : goal.take_out-requires-clause-queued
take_out-requires-clause-queued c =
    let take = Take c.args.worker c.args.service in
    let legal =
    subst (λ (r : RunSoFar). IsLegal r.course r.events take) (sym c.self.view_is) c.requires in
    (can_note_ready _ _ c.self.inside.ready take c.self.invariant.0.course
    c.self.invariant.0.run c.self.invariant.3 c.self.invariant.4 legal).0

pub take_out-requires-clause-placed : goal.take_out-requires-clause-placed
take_out-requires-clause-placed c = c.self.invariant.1

pub push_reserved-requires : goal.push_reserved-requires
push_reserved-requires c =
    let take = Take c.args.worker c.args.service in
    let legal =
    subst (λ (r : RunSoFar). IsLegal r.course r.events take) (sym c.self.view_is) c.requires in
    room_for _ _ _ _ take c.self.invariant.0 legal c.note_take.ensures

pub invariant_of-self : goal.invariant_of-self
invariant_of-self c =
    let take = Take c.args.worker c.args.service in
    let legal =
    subst (λ (r : RunSoFar). IsLegal r.course r.events take) (sym c.self.view_is) c.requires in
    let kept = c.self.invariant.0 in
    let ready =
    ready_noted _ _ c.self.inside.ready c.take_out.new.self take kept.course kept.run
    c.self.invariant.3 c.self.invariant.4 legal c.take_out.ensures.taken in (
      kept_on _ _ _ _ _ take kept legal c.note_take.ensures c.push_reserved.ensures.items
          c.push_reserved.ensures.len c.push_reserved.ensures.capacity,
      c.take_out.ensures.placed,
      c.self.invariant.2,
      rw c.push_reserved.ensures.items ready.0,
      ready.1,
    )
