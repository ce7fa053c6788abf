-- The definitions of all trees, or the first fault in the order of the tests. The trees are lent
-- one by one as mutable borrows: it must be shown that what a tree holds does not change, and that
-- the ones ahead are as they were (`ahead`), before `told_at` finds the source of the present one.
-- The lemmas of Reading lead the tests on by one source.
use Rattle.std.proofs.Common.{◌≡◌, ◌∙◌, get_or, sym, ap, arith}
use Rattle.std.proofs.Math.Seq.{map-set_same}
use Rattle.rc_source.specs.Tests.{flaw_of, name_carried}
use Rattle.rc_source.proofs.Exits.{exit}
use Rattle.rc_source.proofs.Reading.{one_source, source_stops, sources_pass}
use Rattle.rc_source.proofs.Sources.{told_at, as_many, at_front, behind_set, one_failed}
use Rattle.rc_source.proofs.read.read_all.Goals as goal

pub returns-in_err-read_source-clause-fault : goal.returns-in_err-read_source-clause-fault
returns-in_err-read_source-clause-fault g c =
    exit c.from_residual.result c.in_err-read_source.field-0.0 _ c.from_residual.ensures.1
    (λ no_memory sources known.
    let old = c.args.trees.now in
    let tree = get_or c.loop-tree.trees c.loop-tree.tree-index c.tree-item.result in
    let here : get_or old c.loop-tree.tree-index tree ≡ tree =
    sym (at_front c.loop-tree.trees old c.loop-tree.tree-index tree c.loop-tree.invariant.ahead)
    ∙ ap (λ d. get_or c.loop-tree.trees c.loop-tree.tree-index d) (sym c.tree-item.is) in
    let (source, inside, at, tells) = told_at g.T.Tree.held old sources c.loop-tree.tree-index tree
    (omega arith) (ap g.T.Tree.held here) known in
    source_stops sources c.loop-tree.found c.loop-tree.tree-index source inside at
    (c.loop-tree.invariant.known sources known)
    (flaw_of c.in_err-read_source.field-0.0) (name_carried c.in_err-read_source.field-0.0)
    (c.in_err-read_source.ensures.fault no_memory source tells))

pub returns-in_err-read_source-clause-io : goal.returns-in_err-read_source-clause-io
returns-in_err-read_source-clause-io g c =
    exit c.from_residual.result c.in_err-read_source.field-0.0 _ c.from_residual.ensures.1
    (λ io.
    let old = c.args.trees.now in
    let tree = get_or c.loop-tree.trees c.loop-tree.tree-index c.tree-item.result in
    let here : get_or old c.loop-tree.tree-index tree ≡ tree =
    sym (at_front c.loop-tree.trees old c.loop-tree.tree-index tree c.loop-tree.invariant.ahead)
    ∙ ap (λ d. get_or c.loop-tree.trees c.loop-tree.tree-index d) (sym c.tree-item.is) in
    one_failed g.T.Tree.failed old c.loop-tree.trees c.loop-tree.tree-index tree
    c.read_source.new.tree (omega arith) (omega arith) here (c.in_err-read_source.ensures.io io))

pub returns-in_err-read_source-clause-same : goal.returns-in_err-read_source-clause-same
returns-in_err-read_source-clause-same g c =
    map-set_same g.T.Tree.held c.loop-tree.trees c.loop-tree.tree-index c.read_source.new.tree
    c.tree-item.result c.in_err-read_source.ensures.same
    ∙ c.loop-tree.invariant.same

pub loop-tree-preserved : goal.loop-tree-preserved
loop-tree-preserved g c = record {
  same =
      map-set_same g.T.Tree.held c.loop-tree.trees c.loop-tree.tree-index c.read_source.new.tree
      c.tree-item.result c.in_ok-read_source.ensures.same
      ∙ c.loop-tree.invariant.same;
  quiet =
      map-set_same g.T.Tree.failed c.loop-tree.trees c.loop-tree.tree-index c.read_source.new.tree
      c.tree-item.result c.in_ok-read_source.ensures.quiet
      ∙ c.loop-tree.invariant.quiet;
  ahead =
      behind_set c.loop-tree.trees c.args.trees.now c.loop-tree.tree-index c.read_source.new.tree
      c.loop-tree.invariant.ahead;
  known = λ sources known.
      let old = c.args.trees.now in
      let tree = get_or c.loop-tree.trees c.loop-tree.tree-index c.tree-item.result in
      let here : get_or old c.loop-tree.tree-index tree ≡ tree =
      sym (at_front c.loop-tree.trees old c.loop-tree.tree-index tree c.loop-tree.invariant.ahead)
      ∙ ap (λ d. get_or c.loop-tree.trees c.loop-tree.tree-index d) (sym c.tree-item.is) in
      let (source, inside, at, tells) = told_at g.T.Tree.held old sources c.loop-tree.tree-index
      tree (omega arith) (ap g.T.Tree.held here) known in
      one_source sources c.loop-tree.found c.loop-tree.tree-index source inside at
      (c.loop-tree.invariant.known sources known) c.read_source.new.found
      (c.in_ok-read_source.ensures.meanings source tells)
      (c.in_ok-read_source.ensures.passes source tells);
}

pub returns-clause-sound : goal.returns-clause-sound
returns-clause-sound g c = λ sources known.
    let many = as_many g.T.Tree.held c.args.trees.now sources known in
    sources_pass sources c.loop-tree.found c.loop-tree.tree-index
    (omega (arith, many, c.loop-tree-test.false)) (c.loop-tree.invariant.known sources known)
