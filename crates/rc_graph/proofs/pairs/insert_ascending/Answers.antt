use Rattle.std.proofs.Common.{◌<◌, ℕ, List, Contains, refl, arith, subst}
use Rattle.rc_graph.proofs.PairLemmas.{ascending_gap, below_lacks, contains_insert, found_searched}
use Rattle.rc_graph.proofs.PairLemmas.{gap_searched, gap_lacks, none_new}
use Rattle.rc_graph.proofs.pairs.insert_ascending.Goals as goal

pub insert-requires : goal.insert-requires
insert-requires c = (
  omega arith,
  (gap_searched _ _ _ _ c.requires c.deref.ensures c.in-Err.ensures.position).within,
)

pub returns-in_err-insert-clause-ascending : goal.returns-in_err-insert-clause-ascending
returns-in_err-insert-clause-ascending c = rw c.in_err-insert.ensures.err c.requires

pub returns-in_ok-insert-clause-ascending : goal.returns-in_ok-insert-clause-ascending
returns-in_ok-insert-clause-ascending c =
    rw c.in_ok-insert.ensures.ok
    (ascending_gap _ _ _ c.requires
    (gap_searched _ _ _ _ c.requires c.deref.ensures c.in-Err.ensures.position))

pub returns-in_ok-insert-clause-members : goal.returns-in_ok-insert-clause-members
returns-in_ok-insert-clause-members c = rw c.in_ok-insert.ensures.ok (contains_insert _ _ _)

pub returns-in_ok-insert-clause-again : goal.returns-in_ok-insert-clause-again
returns-in_ok-insert-clause-again c has =
    absurd (gap_lacks _ _ _
    (gap_searched _ _ _ _ c.requires c.deref.ensures c.in-Err.ensures.position) has)

pub returns-in_err-insert-clause-again : goal.returns-in_err-insert-clause-again
returns-in_err-insert-clause-again c has =
    absurd (gap_lacks _ _ _
    (gap_searched _ _ _ _ c.requires c.deref.ensures c.in-Err.ensures.position) has)

pub returns-in_default-clause-ascending : goal.returns-in_default-clause-ascending
returns-in_default-clause-ascending c = c.requires

pub returns-in_default-clause-members : goal.returns-in_default-clause-members
returns-in_default-clause-members c =
    none_new _ _ (found_searched _ _ _ _ c.requires c.deref.ensures c.in_default.ensures.position)

pub returns-in_default-clause-err : goal.returns-in_default-clause-err
returns-in_default-clause-err c = tt

pub returns-in_default-clause-again : goal.returns-in_default-clause-again
returns-in_default-clause-again c has = (refl, refl)

pub push_ascending-requires-clause-lower : goal.push_ascending-requires-clause-lower
push_ascending-requires-clause-lower c =
    subst (λ (ids : List ℕ). (s : ℕ) → Contains ids s → s < c.args.id) c.as_slice.ensures
    (c.are_below.ensures c.if-are_below.true)

pub returns-then-are_below-clause-again : goal.returns-then-are_below-clause-again
returns-then-are_below-clause-again c has =
    absurd (below_lacks c.args.ids.now.items c.args.id
    (subst (λ (ids : List ℕ). (s : ℕ) → Contains ids s → s < c.args.id) c.as_slice.ensures
    (c.are_below.ensures c.if-are_below.true)) has)
