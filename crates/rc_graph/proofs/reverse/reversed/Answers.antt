use Rattle.std.proofs.Common.{◌∙◌, ◌<◌, arith, sym, subst}
use Rattle.std.proofs.lemmas.List.{take_at}
use Rattle.rc_model.specs.Names.{IsAscending}
use Rattle.rc_graph.specs.Rows.{rows}
use Rattle.rc_graph.proofs.RowLemmas.{length-rows, lent_long, row_is, row_known}
use Rattle.rc_graph.proofs.Reversing.{added_lent, none_reversed, one_reversed, all_reversed}
use Rattle.rc_graph.proofs.reverse.reversed.Goals as goal

pub overflow_cast-needs : goal.overflow_cast-needs
overflow_cast-needs c = omega (arith, c.requires.few, length-rows c.args.needs.now)

pub add_needing-requires-clause-lists : goal.add_needing-requires-clause-lists
add_needing-requires-clause-lists c = rw c.deref_mut.ensures.value c.loop-s.invariant.lists

pub add_needing-requires-clause-known : goal.add_needing-requires-clause-known
add_needing-requires-clause-known c =
    row_known _ _ _ _
    (row_is c.args.needs.now c.loop-s.s c.index-needs-s.result c.as_slice.result.now
    c.loop-s-test.true c.index-needs-s.is c.as_slice.ensures) c.requires.known
    (lent_long c.deref_mut.result.now c.loop-s.needed_by.items c.args.needs.now
    c.deref_mut.ensures.value c.loop-s.invariant.few)

pub add_needing-requires-clause-list : goal.add_needing-requires-clause-list
add_needing-requires-clause-list c =
    subst IsAscending
    (row_is c.args.needs.now c.loop-s.s c.index-needs-s.result c.as_slice.result.now
    c.loop-s-test.true c.index-needs-s.is c.as_slice.ensures) (c.requires.ascending c.loop-s.s)

pub add_needing-requires-clause-lower : goal.add_needing-requires-clause-lower
add_needing-requires-clause-lower c =
    λ t s need. ((c.loop-s.invariant.same s t).0 (rw c.deref_mut.ensures.value at need)).0

pub add_needing-requires-clause-service : goal.add_needing-requires-clause-service
add_needing-requires-clause-service c =
    subst (λ n. c.loop-s.s < n)
    (sym (lent_long c.deref_mut.result.now c.loop-s.needed_by.items c.args.needs.now
    c.deref_mut.ensures.value c.loop-s.invariant.few)) c.loop-s-test.true

pub loop-s-init : goal.loop-s-init
loop-s-init c =
    rw (c.in_ok-needed_by.ensures, ← length-rows c.args.needs.now)
    (none_reversed (rows c.args.needs.now) c.requires)

pub loop-s-preserved : goal.loop-s-preserved
loop-s-preserved c =
    rw (take_at _ _ _ (c.add_needing.auto.needed_by ∙ c.deref_mut.ensures.len))
    (one_reversed _ _ _ _ c.loop-s.invariant
    (added_lent c.loop-s.needed_by.items c.deref_mut.result.now c.add_needing.new.needed_by _
    c.as_slice.result.now _ c.deref_mut.ensures.value c.add_needing.auto.needed_by
    (row_is c.args.needs.now c.loop-s.s c.index-needs-s.result c.as_slice.result.now
    c.loop-s-test.true c.index-needs-s.is c.as_slice.ensures) c.add_needing.ensures.lists
    c.in_ok-add_needing.ensures.pairs))

pub returns : goal.returns
returns c =
    all_reversed _ _ _ (rw (length-rows c.args.needs.now) c.loop-s-test.false) c.loop-s.invariant
