use Rattle.std.proofs.Common.{◌≡◌, ℕ, List, [], slice_index_or, length, Contains, ◌↔◌, arith, ap}
use Rattle.std.proofs.Common.{subst}
use Rattle.std.specs.Arc.{arc_value}
use Rattle.rc_model.specs.Names.{IsAscending}
use Rattle.rc_model.specs.Graph.{Needs}
use Rattle.rc_graph.specs.Rows.{rows}
use Rattle.rc_graph.proofs.RowLemmas.{row_is, length-rows}
use Rattle.rc_graph.proofs.graph.Graph.needed_by.Goals as goal

-- the list that is answered
row : (c : goal.After-as_slice)
    → slice_index_or (rows (arc_value c.self.inside.lists).needed_by.items) c.args.service []
    ≡ c.as_slice.result.now
row c =
    let needed_by = (arc_value c.self.inside.lists).needed_by.items in
    row_is needed_by c.args.service c.index.result.now _
    (omega (
      arith,
      length-rows needed_by,
      ap length c.self.view_is,
      c.self.invariant.reverse.few,
    )) (rw (← c.deref.ensures) c.index.ensures) c.as_slice.ensures

pub returns-clause-ascending : goal.returns-clause-ascending
returns-clause-ascending c =
    subst IsAscending (row c) (c.self.invariant.reverse.ascending c.args.service)

pub returns-clause-same : goal.returns-clause-same
returns-clause-same c s =
    rw (← c.self.view_is)
    (subst (λ (xs : List ℕ). Contains xs s
    ↔ Needs (rows (arc_value c.self.inside.lists).needs.items) s c.args.service) (row c)
    (c.self.invariant.reverse.same s c.args.service))
