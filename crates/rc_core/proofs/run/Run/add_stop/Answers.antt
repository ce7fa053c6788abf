use Rattle.std.proofs.Common.{refl, subst, sym}
use Rattle.rc_model.specs.declared.Event.TheVariants.{Stop}
use Rattle.rc_model.specs.Run.{IsLegal}
use Rattle.rc_core.specs.Settled.{RunSoFar}
use Rattle.rc_core.proofs.Keeping.{kept_on, room_for}
use Rattle.rc_core.proofs.Readying.{ready_noted}
use Rattle.rc_core.proofs.run.Run.add_stop.Goals as goal

pub push_reserved-requires : goal.push_reserved-requires
push_reserved-requires c =
    let stop = Stop c.args.worker c.args.moment in
    let legal =
    subst (λ (r : RunSoFar). IsLegal r.course r.events stop) (sym c.self.view_is) c.requires in
    room_for _ _ _ _ stop c.self.invariant.0 legal c.note_stop.ensures

pub invariant_of-self : goal.invariant_of-self
invariant_of-self c =
    let stop = Stop c.args.worker c.args.moment in
    let legal =
    subst (λ (r : RunSoFar). IsLegal r.course r.events stop) (sym c.self.view_is) c.requires in
    let kept = c.self.invariant.0 in
    let ready =
    ready_noted _ _ c.self.inside.ready c.self.inside.ready stop kept.course kept.run
    c.self.invariant.3 c.self.invariant.4 legal refl in (
      kept_on _ _ _ _ _ stop kept legal c.note_stop.ensures c.push_reserved.ensures.items
          c.push_reserved.ensures.len c.push_reserved.ensures.capacity,
      c.self.invariant.1,
      c.self.invariant.2,
      rw c.push_reserved.ensures.items ready.0,
      ready.1,
    )
