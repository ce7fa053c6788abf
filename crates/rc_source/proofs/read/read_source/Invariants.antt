use Rattle.std.proofs.Common.{◌≡◌, Some, map, string_bytes}
use Rattle.rc_source.specs.Tree.{Source}
use Rattle.rc_source.proofs.Reading.{EntriesRead}
use Rattle.rc_source.proofs.read.read_source.Given as goal

abbrev pub invariant-loop-name : goal.invariant-loop-name
invariant-loop-name g l = record {
  same : g.T.Tree.held l.tree ≡ g.T.Tree.held l.fn.tree;
  quiet : g.T.Tree.failed l.tree ≡ g.T.Tree.failed l.fn.tree;
  known : (source : Source) → g.T.Tree.held l.fn.tree ≡ Some source
      → EntriesRead source l.fn.found l.found (map string_bytes l.name-items) l.name-index;
}
