use Rattle.rc_board.proofs.Saying.{said_asked}
use Rattle.rc_board.proofs.worker.turn.Goals as goal

pub returns-in-Again : goal.returns-in-Again
returns-in-Again g c =
    said_asked (g.G.Gate.answers c.args.crew.now.gate.now) (g.G.Gate.gives c.args.crew.now.gate.now)
    c.args.crew.now.shared.now.deadline c.args.pad.now c.next_on-asked.new.pad
    c.requires c.args.worker
    c.time_of-time.result c.next_on-asked.result c.time_of-time.ensures c.next_on-asked.ensures

pub returns-in-Over : goal.returns-in-Over
returns-in-Over g c =
    said_asked (g.G.Gate.answers c.args.crew.now.gate.now) (g.G.Gate.gives c.args.crew.now.gate.now)
    c.args.crew.now.shared.now.deadline c.args.pad.now c.next_on-asked.new.pad
    c.requires c.args.worker
    c.time_of-time.result c.next_on-asked.result c.time_of-time.ensures c.next_on-asked.ensures
