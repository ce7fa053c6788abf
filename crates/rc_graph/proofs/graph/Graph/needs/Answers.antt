use Rattle.std.proofs.Common.{length, arith, ap, subst}
use Rattle.std.specs.Arc.{arc_value}
use Rattle.rc_model.specs.Names.{IsAscending}
use Rattle.rc_graph.proofs.RowLemmas.{row_is, length-rows}
use Rattle.rc_graph.proofs.graph.Graph.needs.Goals as goal

pub returns-clause-ascending : goal.returns-clause-ascending
returns-clause-ascending c =
    let needs = (arc_value c.self.inside.lists).needs.items in
    subst IsAscending (row_is needs c.args.service c.index.result.now c.as_slice.result.now
    (omega (arith, length-rows needs, ap length c.self.view_is))
    (rw (← c.deref.ensures) c.index.ensures) c.as_slice.ensures)
    (c.self.invariant.lists.ascending c.args.service)
