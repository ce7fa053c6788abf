use Rattle.std.proofs.Common.{arith}
use Rattle.rc_graph.proofs.Flattening.{row_few, one_flat, all_flat}
use Rattle.rc_graph.proofs.flat.flat_of.Goals as goal

pub overflow_cast-len : goal.overflow_cast-len
overflow_cast-len c =
    let few = row_few c.args.lists.now c.loop-list.list-index c.list-item.result c.requires
    c.loop-list-test.true c.list-item.is in
    record { fits = omega (arith, few, c.len.ensures.value) }

pub loop-list-preserved : goal.loop-list-preserved
loop-list-preserved c =
    one_flat c.args.lists.now c.loop-list.list-index c.list-item.result c.len.result
    c.as_slice.result.now c.loop-list.flat.items c.push.new.self.items
    c.extend_from_slice.new.self.items c.loop-list-test.true c.list-item.is c.len.ensures.value
    c.as_slice.ensures c.loop-list.invariant c.in_ok-push.ensures.items
    c.in_ok-extend_from_slice.ensures.items

pub returns : goal.returns
returns c =
    all_flat c.args.lists.now c.loop-list.list-index c.loop-list.flat.items c.loop-list-test.false
    c.loop-list.invariant
