use Rattle.std.proofs.Common.{◌≡◌, take}
use Rattle.rc_graph.specs.Flat.{flat_of}
use Rattle.rc_graph.specs.Rows.{rows}
use Rattle.rc_graph.proofs.flat.flat_of.Given as goal

-- those so far are in
abbrev pub invariant-loop-list : goal.invariant-loop-list
invariant-loop-list l = l.flat.items ≡ flat_of (take l.list-index (rows l.lists))
