use Rattle.std.proofs.Common.{◌≡◌, ℕ, List, Bool, Option, subst, rules}
use Rattle.rc_model.specs.Plan.{PlanSets}
use Rattle.rc_model.specs.declared.Event.{Event}
use Rattle.rc_model.specs.Run.{course_of, IsSettled}
use Rattle.rc_core.specs.Settled.{RunSoFar}
use Rattle.rc_board.specs.Interleaving.{AreInterleaved, IsMadeByPads}
use Rattle.rc_board.specs.Pads.{Written}
use Rattle.rc_board.proofs.laws.gather.Goals as goal

-- an interleaving of the same pads, where the same is up at first
same_interleaving : (up up' : List Bool) (pads : List Written) (events events' : List Event)
    → up ≡ up' → events ≡ events' → AreInterleaved up pads events → AreInterleaved up' pads events'
same_interleaving up up' pads events events' same_up same_events are =
    subst (λ (es : List Event). AreInterleaved up' pads es) same_events
    (subst (λ (set : List Bool). AreInterleaved set pads events) same_up are)

-- a board that gave a run is made by the pads if the run is
made_by : (needs : List (List ℕ)) (plan : PlanSets) (deadline : Option ℕ) (pads : List Written)
    (run board : RunSoFar) → run ≡ board → run.course ≡ course_of needs plan deadline
    → IsSettled run.course run.events → AreInterleaved plan.opening pads run.events
    → IsMadeByPads needs plan deadline pads board
made_by needs plan deadline pads run board same course settled interleaved =
    let made : IsMadeByPads needs plan deadline pads run =
    record { course = course; settled = settled; interleaved = interleaved } in
    subst (λ (r : RunSoFar). IsMadeByPads needs plan deadline pads r) same made

pub finish-requires : goal.finish-requires
finish-requires c = c.settled.ensures.0 c.if-settled.true

pub returns-then-are_interleaved-clause-ok : goal.returns-then-are_interleaved-clause-ok
returns-then-are_interleaved-clause-ok c =
    let course : c.into_run-run.result.course
    ≡ course_of c.args.graph.now c.args.plan.now c.args.deadline = search rules in
    made_by c.args.graph.now c.args.plan.now c.args.deadline c.args.pads.now c.into_run-run.result
    c.args.board c.into_run-run.ensures course
    (c.settled.ensures.0 c.if-settled.true)
    (same_interleaving c.opening.result.now c.args.plan.now.opening c.args.pads.now
    c.trace.result.now c.into_run-run.result.events c.opening.ensures.set c.trace.ensures.events
    (c.are_interleaved.ensures.0 c.if-are_interleaved.true))
