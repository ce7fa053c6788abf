use Rattle.std.proofs.Common.{refl, arith}
use Rattle.rc_core.proofs.Placed.{is_taken, still_placed, still_placed_last}
use Rattle.rc_core.proofs.ready.Ready.take_out.Goals as goal

pub returns-then-at-len-clause-taken : goal.returns-then-at-len-clause-taken
returns-then-at-len-clause-taken c =
    is_taken c.args.self.now c.swap_remove.new.self c.index-at.result.now c.args.service
    c.requires.placed c.requires.queued c.index-at.ensures c.swap_remove.ensures.len
    c.swap_remove.ensures.by_index.0 c.swap_remove.ensures.by_index.1
    c.swap_remove.ensures.capacity _

pub returns-else-at-len-clause-taken : goal.returns-else-at-len-clause-taken
returns-else-at-len-clause-taken c =
    is_taken c.args.self.now c.swap_remove.new.self c.index-at.result.now c.args.service
    c.requires.placed c.requires.queued c.index-at.ensures c.swap_remove.ensures.len
    c.swap_remove.ensures.by_index.0 c.swap_remove.ensures.by_index.1
    c.swap_remove.ensures.capacity _

pub returns-then-at-len-clause-placed : goal.returns-then-at-len-clause-placed
returns-then-at-len-clause-placed c =
    still_placed c.args.self.now c.swap_remove.new.self c.index-at.result.now c.args.service
    c.requires.placed c.requires.queued c.index-at.ensures c.swap_remove.ensures.len
    c.swap_remove.ensures.by_index.0 c.swap_remove.ensures.by_index.1 _ c.index-moved.result.now
    (omega (arith, c.if-at-len.true, c.len.ensures, c.swap_remove.new.self.ok.0))
    c.index-moved.ensures refl

pub returns-else-at-len-clause-placed : goal.returns-else-at-len-clause-placed
returns-else-at-len-clause-placed c =
    still_placed_last c.args.self.now c.swap_remove.new.self c.index-at.result.now c.args.service
    c.requires.placed c.requires.queued c.index-at.ensures c.swap_remove.ensures.len
    c.swap_remove.ensures.by_index.0 c.swap_remove.ensures.by_index.1
    (omega (arith, c.if-at-len.false, c.len.ensures, c.swap_remove.new.self.ok.0))
