use Rattle.std.proofs.Common.{◌≡◌, ◌∙◌, [], slice_index_or, sym, arith}
use Rattle.rc_model.specs.Graph.{Needs}
use Rattle.rc_compile.specs.Rows.{rows}
use Rattle.rc_compile.proofs.RowLemmas.{length-rows, row_is, row_needs, row_known}
use Rattle.rc_compile.proofs.Drafts.{lists_more, lists_all}
use Rattle.rc_compile.proofs.members.graph.need_lists.Goals as goal

pub need_all-requires-clause-known : goal.need_all-requires-clause-known
need_all-requires-clause-known c =
    let row : slice_index_or (rows c.args.lists.now) c.loop-s.s [] ≡ c.as_slice.result.now =
    row_is c.args.lists.now c.loop-s.s c.index-lists-s.result _ (omega arith) c.index-lists-s.is
    c.as_slice.ensures.value in
    row_known c.args.lists.now c.loop-s.s _ _ row c.requires.known
    (c.loop-s.invariant.bound ∙ sym c.requires.bound)

pub loop-s-preserved : goal.loop-s-preserved
loop-s-preserved c =
    let row : slice_index_or (rows c.args.lists.now) c.loop-s.s [] ≡ c.as_slice.result.now =
    row_is c.args.lists.now c.loop-s.s c.index-lists-s.result _ (omega arith) c.index-lists-s.is
    c.as_slice.ensures.value in
    record {
      bound = c.need_all.ensures.bound ∙ c.loop-s.invariant.bound;
      pairs =
          lists_more (Needs c.args.draft.now) (rows c.args.lists.now) c.loop-s.draft
          c.need_all.new.draft c.loop-s.s c.as_slice.result.now c.loop-s.invariant.pairs
          c.in_ok-need_all.ensures.pairs
          (row_needs c.args.lists.now c.loop-s.s _ row);
    }

pub returns-clause-pairs : goal.returns-clause-pairs
returns-clause-pairs c =
    lists_all (Needs c.args.draft.now) (rows c.args.lists.now) c.loop-s.draft c.loop-s.s
    (omega (arith, length-rows c.args.lists.now)) c.loop-s.invariant.pairs
