-- The run that workers have made is one that some interleaving of their notes makes. What each
-- worker wrote stands in its pad, under a lock that is opened when all have ended; the contract of
-- the threads gives what each of them said. `joined_made` makes one run of the interleaved notes.
use Rattle.std.proofs.Common.{◌≡◌, ℕ, List, length, sym, subst, rules}
use Rattle.std.specs.List.{All}
use Rattle.rc_core.specs.Settled.{RunSoFar}
use Rattle.rc_board.specs.Made.{AreMadeInTime}
use Rattle.rc_board.specs.Pads.{Written, AreSaid}
use Rattle.rc_board.proofs.Joining.{joined_made}
use Rattle.rc_board.proofs.play.worked.Goals as goal

pub returns-in-Ok-clause-made : goal.returns-in-Ok-clause-made
returns-in-Ok-clause-made g c =
    let Answers = g.G.Gate.answers c.args.executor.now.gate.now in
    let Gives = g.G.Gate.gives c.args.executor.now.gate.now in
    let up = c.args.course.now.plan.now.opening in
    let events = c.into_inner-board.result.events in
    let pads : List Written = c.deref.result.now in
    let said : All (λ (pad : Written). AreSaid Answers Gives c.args.course.now.deadline pad.notes)
    pads =
    rw c.deref.ensures.value c.in-Some.ensures.said in
    let many : length pads ≡ c.args.workers = search rules in
    let made = joined_made Answers Gives c.args.course.now.deadline up pads events
    c.in-Ok.ensures.ok.interleaved said in
    subst (λ (r : RunSoFar). AreMadeInTime c.args.workers Answers Gives c.args.course.now.deadline
    up r.events)
    (sym c.in-Ok.ensures.ended)
    (subst (λ (n : ℕ). AreMadeInTime n Answers Gives c.args.course.now.deadline up events) many
    made)
