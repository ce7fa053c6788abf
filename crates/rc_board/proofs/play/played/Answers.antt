-- The run of a plan by up to 64 workers, or with nothing to do by none. If nothing is planned, the
-- course is settled without an event, and each clause is shown of that. Else the clauses are those
-- of `worked` by the crew that is started; `made` widens that crew to the workers that were asked
-- for.
use Rattle.std.proofs.Common.{◌≡◌, ◌∙◌, ◌<◌, ◌≤◌, ℕ, [], ap, sym, subst, rules}
use Rattle.std.proofs.Math.Nat.{min-le_left}
use Rattle.rc_model.specs.Run.{IsPlanned, course_of, IsSettled}
use Rattle.rc_model.specs.Beside.{planned_count}
use Rattle.rc_core.specs.Settled.{RunSoFar}
use Rattle.rc_board.specs.Made.{AreMadeInTime}
use Rattle.rc_board.proofs.Counting.{idle_settled, none_planned, one_planned, few_planned}
use Rattle.rc_board.proofs.Counting.{ok_always}
use Rattle.rc_board.proofs.Making.{made_none, ok_by_more}
use Rattle.rc_board.proofs.play.played.Goals as goal

pub finish-requires : goal.finish-requires
finish-requires g c =
    let course =
    course_of c.args.course.now.graph.now c.args.course.now.plan.now c.args.course.now.deadline in
    let zero : c.planned-planned.result ≡ 0 = search rules in
    let none : planned_count course ≡ 0 =
    sym (ap (λ (r : RunSoFar). planned_count r.course) c.in_ok-run.ensures)
    ∙ sym c.planned-planned.ensures ∙ zero in
    subst (λ (r : RunSoFar). IsSettled r.course r.events) (sym c.in_ok-run.ensures)
    (idle_settled course (none_planned course none))

pub worked-requires-clause-work : goal.worked-requires-clause-work
worked-requires-clause-work g c κs within =
    let course =
    course_of c.args.course.now.graph.now c.args.course.now.plan.now c.args.course.now.deadline in
    let some : 0 < c.planned-planned.result = search rules in
    one_planned course c.planned-planned.result
    (c.planned-planned.ensures ∙ ap (λ (r : RunSoFar). planned_count r.course) c.in_ok-run.ensures)
    some

pub returns-in-Ok-clause-idle : goal.returns-in-Ok-clause-idle
returns-in-Ok-clause-idle g c =
    let course =
    course_of c.args.course.now.graph.now c.args.course.now.plan.now c.args.course.now.deadline in
    let some : 0 < c.planned-planned.result = search rules in
    let one = one_planned course c.planned-planned.result
    (c.planned-planned.ensures ∙ ap (λ (r : RunSoFar). planned_count r.course) c.in_ok-run.ensures)
    some in
    ok_always c.worked.result
    (λ ended. ((s : ℕ) → IsPlanned course s → ⊥) → ended.events ≡ [])
    (λ ended none. absurd (none one.0 one.1))

pub returns-in-Ok-clause-made : goal.returns-in-Ok-clause-made
returns-in-Ok-clause-made g c =
    let fewer : c.crew_for-workers.result ≤ c.args.executor.now.workers =
    subst (λ (n : ℕ). n ≤ c.args.executor.now.workers) (sym c.crew_for-workers.ensures.fewer)
    (min-le_left c.args.executor.now.workers c.planned-planned.result) in
    ok_by_more (g.G.Gate.answers c.args.executor.now.gate.now)
    (g.G.Gate.gives c.args.executor.now.gate.now)
    c.args.course.now.deadline c.args.course.now.plan.now.opening c.crew_for-workers.result
    c.args.executor.now.workers
    c.worked.result fewer
    c.worked.ensures.made

pub returns-then-planned-eq0-clause-course : goal.returns-then-planned-eq0-clause-course
returns-then-planned-eq0-clause-course g c =
    ap (λ (r : RunSoFar). r.course) (c.finish.ensures.run ∙ c.in_ok-run.ensures)

pub returns-then-planned-eq0-clause-settled : goal.returns-then-planned-eq0-clause-settled
returns-then-planned-eq0-clause-settled g c =
    let course =
    course_of c.args.course.now.graph.now c.args.course.now.plan.now c.args.course.now.deadline in
    let zero : c.planned-planned.result ≡ 0 = search rules in
    let none : planned_count course ≡ 0 =
    sym (ap (λ (r : RunSoFar). planned_count r.course) c.in_ok-run.ensures)
    ∙ sym c.planned-planned.ensures ∙ zero in
    subst (λ (r : RunSoFar). IsSettled course r.events)
    (sym (c.finish.ensures.run ∙ c.in_ok-run.ensures))
    (idle_settled course (none_planned course none))

pub returns-then-planned-eq0-clause-made : goal.returns-then-planned-eq0-clause-made
returns-then-planned-eq0-clause-made g c =
    let answers = g.G.Gate.answers c.args.executor.now.gate.now in
    let gives = g.G.Gate.gives c.args.executor.now.gate.now in
    subst (λ (r : RunSoFar). AreMadeInTime c.args.executor.now.workers answers gives
    c.args.course.now.deadline
    c.args.course.now.plan.now.opening r.events)
    (sym (c.finish.ensures.run ∙ c.in_ok-run.ensures))
    (made_none answers gives c.args.course.now.deadline c.args.course.now.plan.now.opening
    c.args.executor.now.workers)

pub returns-then-planned-eq0-clause-idle : goal.returns-then-planned-eq0-clause-idle
returns-then-planned-eq0-clause-idle g c none =
    ap (λ (r : RunSoFar). r.events) (c.finish.ensures.run ∙ c.in_ok-run.ensures)

pub room_for-requires-clause-fresh : goal.room_for-requires-clause-fresh
room_for-requires-clause-fresh g c = ap (λ (r : RunSoFar). r.events) c.in_ok-run.ensures

pub room_for-requires-clause-few : goal.room_for-requires-clause-few
room_for-requires-clause-few g c =
    subst (λ (r : RunSoFar). planned_count r.course ≤ 8192) (sym c.in_ok-run.ensures)
    (few_planned _ c.requires.course)
