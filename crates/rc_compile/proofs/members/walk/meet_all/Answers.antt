use Rattle.std.proofs.lemmas.List.{take_more}
use Rattle.rc_compile.proofs.Walks.{Met, meets_none, meets_more}
use Rattle.rc_compile.proofs.members.walk.meet_all.Goals as goal

pub loop-t-init : goal.loop-t-init
loop-t-init c = meets_none _ _

pub loop-t-preserved : goal.loop-t-preserved
loop-t-preserved c =
    let met : Met c.loop-t.walk.seen c.loop-t.walk.todo.items _ c.meet.new.walk.seen
    c.meet.new.walk.todo.items = record {
      bound = c.meet.ensures.bound;
      members = c.meet.ensures.members;
      todo = c.in_ok-meet.ensures.todo;
      cost = c.in_ok-meet.ensures.cost;
    } in
    rw (take_more c.args.list.now c.loop-t.t-index 0 c.loop-t-test.true)
    (meets_more _ _ _ _ _ _ _ _ c.loop-t.invariant met)
