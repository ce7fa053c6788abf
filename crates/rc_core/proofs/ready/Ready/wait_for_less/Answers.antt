-- A service waits for one less, and joins the queue if that was the last. Only `placed` needs an
-- answer: each service in the queue has its place in the table. Either the queue grows by this
-- service, which was not in it and fits, or nothing of it changes but one number of the table.
use Rattle.std.proofs.Common.{◌-◌, refl, arith}
use Rattle.std.proofs.lemmas.List.{length-set}
use Rattle.rc_core.proofs.Placed.{placed_push, placed_same}
use Rattle.rc_core.proofs.ready.Ready.wait_for_less.Goals as goal

pub returns-then-left-eq0-clause-placed : goal.returns-then-left-eq0-clause-placed
returns-then-left-eq0-clause-placed c =
    placed_push c.args.self.now _ c.args.service c.len.result c.requires.placed c.requires.known
    c.requires.out c.push_reserved.ensures.items refl
    (omega (arith, c.len.ensures, c.args.self.now.queue.ok.0))
    (length-set c.args.self.now.waits.items c.args.service (c.index.result.now - 1))

pub returns-else-left-eq0-clause-placed : goal.returns-else-left-eq0-clause-placed
returns-else-left-eq0-clause-placed c =
    placed_same c.args.self.now _ c.requires.placed refl refl
    (length-set c.args.self.now.waits.items c.args.service (c.index.result.now - 1))
