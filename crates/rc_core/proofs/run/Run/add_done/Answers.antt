use Rattle.std.proofs.Common.{◌∙◌, Bool, subst, sym}
use Rattle.rc_model.specs.declared.Event.TheVariants.{Done}
use Rattle.rc_model.specs.Run.{IsLegal}
use Rattle.rc_core.specs.Settled.{RunSoFar}
use Rattle.rc_core.specs.Tables.{NotesDone}
use Rattle.rc_core.proofs.Places.{places}
use Rattle.rc_core.proofs.Keeping.{kept_on, room_for}
use Rattle.rc_core.proofs.Readying.{can_note_ready, ready_noted}
use Rattle.rc_core.proofs.run.Run.add_done.Goals as goal

pub note_done-requires : goal.note_done-requires
note_done-requires c =
    let done = Done c.args.worker c.args.service c.args.outcome in
    let legal =
    subst (λ (r : RunSoFar). IsLegal r.course r.events done) (sym c.self.view_is) c.requires in
    let kept = c.self.invariant.0 in
    places _ _ _ done kept.course kept.run kept.tables legal

pub note_end-requires-clause-can : goal.note_end-requires-clause-can
note_end-requires-clause-can c well =
    let done = Done c.args.worker c.args.service c.args.outcome in
    let legal =
    subst (λ (r : RunSoFar). IsLegal r.course r.events done) (sym c.self.view_is) c.requires in
    can_note_ready _ _ c.self.inside.ready done c.self.invariant.0.course
    c.self.invariant.0.run c.self.invariant.3 c.self.invariant.4 legal
    (sym c.went_well-well.ensures ∙ well)

pub note_end-requires-clause-placed : goal.note_end-requires-clause-placed
note_end-requires-clause-placed c = c.self.invariant.1

pub push_reserved-requires : goal.push_reserved-requires
push_reserved-requires c =
    let done = Done c.args.worker c.args.service c.args.outcome in
    let legal =
    subst (λ (r : RunSoFar). IsLegal r.course r.events done) (sym c.self.view_is) c.requires in
    room_for _ _ _ c.note_done.new.self done c.self.invariant.0 legal
    (subst (λ (well : Bool). NotesDone c.self.inside.tables c.args.worker c.args.service well
    c.note_done.new.self) c.went_well-well.ensures c.note_done.ensures)

pub invariant_of-self : goal.invariant_of-self
invariant_of-self c =
    let done = Done c.args.worker c.args.service c.args.outcome in
    let legal =
    subst (λ (r : RunSoFar). IsLegal r.course r.events done) (sym c.self.view_is) c.requires in
    let kept = c.self.invariant.0 in
    let ready =
    ready_noted _ _ c.self.inside.ready c.note_end.new.self done kept.course kept.run
    c.self.invariant.3 c.self.invariant.4 legal (
      λ well. c.note_end.ensures.arrived (c.went_well-well.ensures ∙ well),
      λ fails. c.note_end.ensures.failed (c.went_well-well.ensures ∙ fails),
    ) in (
      kept_on _ _ _ _ c.note_done.new.self done kept legal
          (subst (λ (well : Bool). NotesDone c.self.inside.tables c.args.worker c.args.service well
          c.note_done.new.self) c.went_well-well.ensures c.note_done.ensures)
          c.push_reserved.ensures.items c.push_reserved.ensures.len
          c.push_reserved.ensures.capacity,
      c.note_end.ensures.placed,
      c.self.invariant.2,
      rw c.push_reserved.ensures.items ready.0,
      ready.1,
    )
