use Rattle.rc_board.specs.Pads.{AreSaid}
use Rattle.rc_board.proofs.worker.work.Given as goal

-- all on the pad is what the gate may say
abbrev pub invariant-loop : goal.invariant-loop
invariant-loop g l =
    (goal.iterator-loop g).can_next l.iterator' × (goal.iterator-loop g).is_finite l.iterator'
    × AreSaid (g.G.Gate.answers l.crew.gate.now) (g.G.Gate.gives l.crew.gate.now)
    l.crew.shared.now.deadline l.pad.notes
