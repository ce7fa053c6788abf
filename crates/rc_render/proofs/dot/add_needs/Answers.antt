use Rattle.std.proofs.Common.{take}
use Rattle.rc_model.proofs.Lists.{grown}
use Rattle.rc_render.specs.DotText.{edge_line, edge_lines, need_end}
use Rattle.rc_render.specs.Lines.{names_at}
use Rattle.rc_render.proofs.LineLemmas.{one_more_id}
use Rattle.rc_render.proofs.dot.add_needs.Goals as goal

pub loop-need-preserved : goal.loop-need-preserved
loop-need-preserved c =
    let edge = edge_line need_end c.args.name.now in
    grown c.add_edge.new.text.items c.loop-need.text.items c.args.text.now.items
    (edge_lines need_end c.args.name.now
    (names_at c.args.names.now (take c.loop-need.need-index c.args.needs.now))) _
    (edge c.name_of.result.now)
    c.in_ok-add_edge.ensures c.loop-need.invariant
    (one_more_id edge c.args.names.now c.args.needs.now c.loop-need.need-index c.name_of.result.now
    c.loop-need-test.true c.name_of.ensures)
