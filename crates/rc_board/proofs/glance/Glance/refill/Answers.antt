use Rattle.std.proofs.Common.{◌≡◌, ◌∙◌, ◌≤◌, ◌+◌, ◌*◌, List, length, vec_capacity, ap, sym, subst}
use Rattle.std.proofs.Common.{arith}
use Rattle.rc_model.specs.declared.Event.{Event}
use Rattle.rc_model.specs.Beside.{planned_count}
use Rattle.rc_board.specs.Sight.{Sight}
use Rattle.rc_board.proofs.Counting.{run_fits}
use Rattle.rc_board.proofs.glance.Glance.refill.Goals as goal

pub refill_events-requires : goal.refill_events-requires
refill_events-requires c =
    let run = c.args.run.now in
    let room = vec_capacity c.self.inside.events in
    let planned : planned_count run.course ≡ c.self.inside.planned =
    c.requires.planned ∙ sym (ap (λ (s : Sight). s.planned) c.self.view_is) in
    let enough : 2 * planned_count run.course + 1 ≤ room =
    omega (arith, planned, c.self.invariant.1) in
    subst (λ (es : List Event). length es ≤ room) (sym c.trace.ensures.events)
    (run_fits run.course run.events room c.trace.ensures.course c.trace.ensures.run enough)
