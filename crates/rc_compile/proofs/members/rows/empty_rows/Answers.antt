use Rattle.std.proofs.Common.{ap}
use Rattle.rc_compile.specs.Rows.{rows}
use Rattle.rc_compile.proofs.RowLemmas.{all_empty, one_empty}
use Rattle.rc_compile.proofs.members.rows.empty_rows.Goals as goal

pub loop-init : goal.loop-init
loop-init c = ap rows c.in_ok-lists.ensures.items

pub loop-preserved : goal.loop-preserved
loop-preserved c =
    one_empty c.loop.lists.items c.push.new.self.items c.new.result c.loop.counter c.loop.invariant
    c.in_ok-push.ensures.items c.new.ensures.items

pub returns : goal.returns
returns c =
    all_empty c.loop.lists.items c.loop.counter c.args.count c.loop.invariant
    c.loop.auto.counter-end c.loop-test.false
