use Rattle.std.proofs.Common.{◌≡◌, ◌∙◌, ℕ, ◌<◌, List, Contains, length, refl, inl, inr, sym, subst}
use Rattle.std.proofs.Common.{arith}
use Rattle.smallvec.specs.SmallVec.{SmallVec}
use Rattle.std.proofs.lemmas.Bool.{false≢true}
use Rattle.std.proofs.lemmas.Result.{IfOk-weaker}
use Rattle.rc_model.proofs.SetMembers.{has_or_lacks}
use Rattle.rc_graph.specs.Rows.{rows}
use Rattle.rc_graph.proofs.RowLemmas.{length-rows, row_is, row_known, row_needs}
use Rattle.rc_model.proofs.Counting.{fewer_left}
use Rattle.rc_graph.proofs.Orders.{misses_within}
use Rattle.rc_graph.proofs.Rings.{walk_begins, walk_goes_on, walk_closes}
use Rattle.rc_graph.proofs.cycle.ring_from.Goals as goal

in_table : (vectors : List (SmallVec ℕ)) (s : ℕ) → s < length (rows vectors) → s < length vectors
in_table vectors s h =
    let n : length (rows vectors) ≡ length vectors = length-rows vectors in omega arith

pub bounds-needs-at : goal.bounds-needs-at
bounds-needs-at c = in_table _ _ c.loop-path.invariant.known

pub insert-requires : goal.insert-requires
insert-requires c =
    subst (λ n. c.loop-path.at < n) (sym c.loop-path.invariant.bound) c.loop-path.invariant.known

pub left_need-at-requires-clause-known : goal.left_need-at-requires-clause-known
left_need-at-requires-clause-known c =
    row_known _ _ _ _
    (row_is c.args.needs.now c.loop-path.at c.index-needs-at.result c.as_slice.result.now
    (in_table _ _ c.loop-path.invariant.known) c.index-needs-at.is c.as_slice.ensures)
    c.requires.lists.known c.requires.bound

pub loop-path-init : goal.loop-path-init
loop-path-init c =
    let n : length (rows c.args.needs.now) ≡ length c.args.needs.now =
    length-rows c.args.needs.now in
    rw c.new-path.ensures.items
    (walk_begins (rows c.args.needs.now) c.args.missing.now c.in_ok-seen.seen c.args.start
    (c.in_ok-seen.ensures.bound ∙ sym n) c.in_ok-seen.ensures.members
    (let low : c.args.start < length c.args.missing.now = misses_within c.args.missing.now
    c.args.start c.requires.left in omega (arith, c.requires.bound)) c.requires.left)

pub left_need-at-requires-clause-some : goal.left_need-at-requires-clause-some
left_need-at-requires-clause-some c =
    let e = row_is c.args.needs.now c.loop-path.at c.index-needs-at.result c.as_slice.result.now
    (in_table _ _ c.loop-path.invariant.known) c.index-needs-at.is c.as_slice.ensures in
    let some = c.requires.stuck c.loop-path.at c.loop-path.invariant.left in (
      some.0,
      (row_needs c.args.needs.now c.loop-path.at c.as_slice.result.now e some.0).0 some.1,
      some.2,
    )

pub from_first-requires : goal.from_first-requires
from_first-requires c = elim (has_or_lacks c.loop-path.seen c.loop-path.at) [
  | inl has ↦
      subst (λ (path : List ℕ). Contains path c.loop-path.at) (sym c.deref.ensures.value)
      ((c.loop-path.invariant.members c.loop-path.at).0 has)
  | inr lacks ↦ absurd (false≢true (c.loop-path-test.ensures.fresh.1 lacks))
]

pub loop-path-smaller : goal.loop-path-smaller
loop-path-smaller c =
    fewer_left _ _ c.loop-path.at c.insert.ensures.bound
    (λ s h. (c.insert.ensures.members s).1 (inl h))
    ((c.insert.ensures.members c.loop-path.at).1 (inr refl)) (c.loop-path-test.ensures.fresh.0 refl)

pub loop-path-preserved : goal.loop-path-preserved
loop-path-preserved c =
    let e = row_is c.args.needs.now c.loop-path.at c.index-needs-at.result c.as_slice.result.now
    (in_table _ _ c.loop-path.invariant.known) c.index-needs-at.is c.as_slice.ensures in
    let needed =
    (row_needs c.args.needs.now c.loop-path.at c.as_slice.result.now e c.left_need-at.result).1
    c.left_need-at.ensures.listed in
    rw c.in_ok-push.ensures.items
    (walk_goes_on _ _ _ _ _ _ _ c.loop-path.invariant (c.loop-path-test.ensures.fresh.0 refl)
    c.insert.ensures.members c.insert.ensures.bound
    needed (c.requires.lists.known _ _ needed) c.left_need-at.ensures.left)

pub returns : goal.returns
returns c = IfOk-weaker c.from_first.result _ _ (λ ring part.
    rw part.3 (walk_closes _ _ _ _ _ part.0 part.1 c.loop-path.invariant
    (sym c.deref.ensures.value ∙ part.2))) c.from_first.ensures
