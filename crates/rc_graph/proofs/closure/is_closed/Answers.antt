use Rattle.std.proofs.Common.{◌≡◌, [], slice_index_or, arith, true, false}
use Rattle.std.proofs.lemmas.List.Elements.{Contains-get_or}
use Rattle.rc_graph.specs.Rows.{rows}
use Rattle.rc_graph.proofs.RowLemmas.{row_is, row_needs, row_known}
use Rattle.rc_graph.proofs.closure.is_closed.Goals as goal

pub has_all-requires : goal.has_all-requires
has_all-requires c =
    let row : slice_index_or (rows c.args.lists.now) c.loop-s.s [] ≡ c.as_slice.result.now =
    row_is c.args.lists.now c.loop-s.s c.index-lists-s.result _ (omega arith) c.index-lists-s.is
    c.as_slice.ensures in
    row_known c.args.lists.now c.loop-s.s _ _ row c.requires.known c.requires.bound

pub returns-then-not-has_all : goal.returns-then-not-has_all
returns-then-not-has_all c =
    let row : slice_index_or (rows c.args.lists.now) c.loop-s.s [] ≡ c.as_slice.result.now =
    row_is c.args.lists.now c.loop-s.s c.index-lists-s.result _ (omega arith) c.index-lists-s.is
    c.as_slice.ensures in (
      λ bad. let no : false ≡ true = bad in cc,
      λ closed. let all : c.has_all.result ≡ true = c.has_all.ensures.1 (λ k d within.
          closed c.loop-s.s _ (c.contains.ensures.0 c.if-contains.true)
          ((row_needs c.args.lists.now c.loop-s.s _ row _).1 (Contains-get_or _ k d within))) in cc,
    )
