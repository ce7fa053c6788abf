use Rattle.std.proofs.Common.{◌≡◌, List, Some, map, drop}
use Rattle.rc_source.specs.Tree.{Source}
use Rattle.rc_source.proofs.Reading.{SourcesRead}
use Rattle.rc_source.proofs.read.read_all.Given as goal

abbrev pub invariant-loop-tree : goal.invariant-loop-tree
invariant-loop-tree g l = record {
  same : map g.T.Tree.held l.trees ≡ map g.T.Tree.held l.fn.trees;
  quiet : map g.T.Tree.failed l.trees ≡ map g.T.Tree.failed l.fn.trees;
  ahead : drop l.tree-index l.trees ≡ drop l.tree-index l.fn.trees;
  known : (sources : List Source) → map g.T.Tree.held l.fn.trees ≡ map Some sources
      → SourcesRead sources l.found l.tree-index;
}
