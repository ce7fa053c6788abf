use Rattle.std.proofs.Common.{arith}
use Rattle.rc_bundle.proofs.Walking.{walked_none, walked_on, walked_all, less_left}
use Rattle.rc_bundle.proofs.edit.Edit.between.Goals as goal

pub loop-i-init : goal.loop-i-init
loop-i-init c = rw c.new-changes.ensures.items (walked_none _ _)

pub loop-i-preserved : goal.loop-i-preserved
loop-i-preserved c =
    rw (c.place_after-i.ensures, c.place_after-j.ensures)
    (walked_on _ _ _ _ _ _ _ _ _ c.len-from_len.ensures.table c.len-to_len.ensures.table
    c.loop-i.invariant c.next_name.ensures c.in-Ok.ensures)

pub loop-i-smaller : goal.loop-i-smaller
loop-i-smaller c =
    rw (c.place_after-i.ensures, c.place_after-j.ensures)
    (less_left _ _ _ _ _ _ _ c.next_name.ensures)

pub returns : goal.returns
returns c = walked_all _ _ _ _ _ c.loop-i.invariant (omega arith) (omega arith)
