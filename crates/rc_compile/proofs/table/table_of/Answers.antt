use Rattle.std.proofs.Common.{◌∙◌, ◌<◌, [], length, arith}
use Rattle.std.proofs.lemmas.List.{get_or_default}
use Rattle.std.proofs.lemmas.Option.{slice_get_within}
use Rattle.rc_compile.proofs.Tabled.{filled_none, filled_room, filled_more, filled_below}
use Rattle.rc_compile.proofs.table.table_of.Goals as goal

pub loop-place-init : goal.loop-place-init
loop-place-init c =
    filled_none c.args.names.now c.args.sets.now c.new-table.result c.new-table.ensures

pub put-requires : goal.put-requires
put-requires c =
    filled_room c.args.names.now c.args.sets.now c.loop-place.place c.loop-place.table
    c.loop-place.invariant (omega (arith, c.loop-place-test.true, c.len-place-end.ensures.len))
    c.len-place-end.ensures.names.few

pub loop-place-preserved : goal.loop-place-preserved
loop-place-preserved c =
    let low : c.loop-place.place < length c.args.names.now =
    omega (arith, c.loop-place-test.true, c.len-place-end.ensures.len) in
    filled_more c.args.names.now c.args.sets.now c.loop-place.place c.loop-place.table
    c.put.new.table c.name_of.result.now c.index-sets-place.result
    c.len-place-end.ensures.names.order c.loop-place.invariant low
    c.name_of.ensures
    (c.index-sets-place.is ∙ get_or_default c.args.sets.now c.loop-place.place _ []
    (omega (arith, c.requires))) c.in_ok-put.ensures.changed c.in_ok-put.ensures.table

pub returns-clause-sets : goal.returns-clause-sets
returns-clause-sets c b name at =
    c.loop-place.invariant.valued b name
    (omega (
      arith,
      slice_get_within c.args.names.now b name at,
      c.loop-place-test.false,
      c.len-place-end.ensures.len,
    )) at

pub returns-clause-bounds : goal.returns-clause-bounds
returns-clause-bounds c =
    filled_below c.args.names.now c.args.sets.now c.loop-place.place c.loop-place.table
    c.len-place-end.ensures.names.order c.loop-place.invariant
    (omega (arith, c.loop-place-test.false, c.len-place-end.ensures.len)) c.requires
