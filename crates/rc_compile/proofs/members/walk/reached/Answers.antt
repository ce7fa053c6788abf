use Rattle.std.proofs.Common.{◌≡◌, ◌∙◌, ◌<◌, [], length, slice_index_or, sym, arith}
use Rattle.std.proofs.lemmas.List.{nil_from_length}
use Rattle.rc_compile.specs.Rows.{rows}
use Rattle.rc_compile.proofs.RowLemmas.{length-rows, row_is, row_needs, row_known}
use Rattle.rc_compile.proofs.Walks.{walk_begins, walk_follows, walk_ends, followed_within}
use Rattle.rc_compile.proofs.members.walk.reached.Goals as goal

pub loop-at-init : goal.loop-at-init
loop-at-init c =
    walk_begins (rows c.args.lists.now) c.args.start _ _
    (c.in_ok-walk.ensures.bound ∙ sym (length-rows c.args.lists.now)) c.in_ok-walk.ensures.seen
    c.in_ok-walk.ensures.todo

pub bounds-lists-at : goal.bounds-lists-at
bounds-lists-at c =
    let low : c.in-Some.at < length (rows c.args.lists.now) =
    followed_within (rows c.args.lists.now) c.args.start c.in-Some.at _ _ _ c.loop-at.invariant
    c.in-Some.ensures.items in
    omega (arith, length-rows c.args.lists.now)

pub meet_all-requires : goal.meet_all-requires
meet_all-requires c =
    let low : c.in-Some.at < length (rows c.args.lists.now) =
    followed_within (rows c.args.lists.now) c.args.start c.in-Some.at _ _ _ c.loop-at.invariant
    c.in-Some.ensures.items in
    let row : slice_index_or (rows c.args.lists.now) c.in-Some.at [] ≡ c.as_slice.result.now =
    row_is c.args.lists.now c.in-Some.at c.index-lists-at.result _
    (omega (arith, length-rows c.args.lists.now)) c.index-lists-at.is c.as_slice.ensures.value in
    row_known c.args.lists.now c.in-Some.at _ _ row c.requires.known
    (c.loop-at.invariant.bound ∙ length-rows c.args.lists.now)

pub loop-at-preserved : goal.loop-at-preserved
loop-at-preserved c =
    let low : c.in-Some.at < length (rows c.args.lists.now) =
    followed_within (rows c.args.lists.now) c.args.start c.in-Some.at _ _ _ c.loop-at.invariant
    c.in-Some.ensures.items in
    let row : slice_index_or (rows c.args.lists.now) c.in-Some.at [] ≡ c.as_slice.result.now =
    row_is c.args.lists.now c.in-Some.at c.index-lists-at.result _
    (omega (arith, length-rows c.args.lists.now)) c.index-lists-at.is c.as_slice.ensures.value in
    walk_follows (rows c.args.lists.now) c.args.start c.in-Some.at _ _ _ _ _ _ c.loop-at.invariant
    c.in-Some.ensures.items (row_needs c.args.lists.now c.in-Some.at _ row) c.in_ok-meet_all.ensures

pub returns-clause-members : goal.returns-clause-members
returns-clause-members c =
    walk_ends (rows c.args.lists.now) c.args.start _ _ c.loop-at.invariant
    (nil_from_length _ (omega (arith, c.in_default.ensures.cases.0, c.loop-at.walk.todo.ok.0)))
