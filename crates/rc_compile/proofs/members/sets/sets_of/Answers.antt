use Rattle.std.proofs.Common.{◌≡◌, ◌∙◌, ℕ, ◌<◌, ◌≤◌, Bool, List, [], length, get_or, slice_index_or}
use Rattle.std.proofs.Common.{sym, ap, subst, arith}
use Rattle.std.proofs.lemmas.List.{length_push}
use Rattle.std.proofs.lemmas.List.Elements.{All-push, Contains-get_or}
use Rattle.rc_compile.specs.Rows.{rows}
use Rattle.rc_compile.proofs.RowLemmas.{row_is, row_needs}
use Rattle.rc_compile.specs.Joining.{AllWithin}
use Rattle.rc_compile.proofs.SetLists.{sets_more}
use Rattle.rc_compile.proofs.members.sets.sets_of.Goals as goal

-- a count that ended is its bound
same_end : (i end : ℕ) → i ≤ end → end ≤ i → i ≡ end
same_end i end low high = omega (arith, low, high)

pub bounds-lists-s : goal.bounds-lists-s
bounds-lists-s c = c.loop-s-test.true

pub set_of-requires-clause-bound : goal.set_of-requires-clause-bound
set_of-requires-clause-bound c = c.requires.bound

pub set_of-requires-clause-known : goal.set_of-requires-clause-known
set_of-requires-clause-known c k d low =
    let list = c.as_slice.result.now in
    let row : slice_index_or (rows c.args.lists.now) c.loop-s.s [] ≡ list =
    row_is c.args.lists.now c.loop-s.s c.index-lists-s.result _ c.loop-s-test.true
    c.index-lists-s.is c.as_slice.ensures.value in
    c.requires.known c.loop-s.s (get_or list k d)
    ((row_needs c.args.lists.now c.loop-s.s list row (get_or list k d)).1
    (Contains-get_or list k d low))

pub loop-s-preserved : goal.loop-s-preserved
loop-s-preserved c =
    let list = c.as_slice.result.now in
    let row : slice_index_or (rows c.args.lists.now) c.loop-s.s [] ≡ list =
    row_is c.args.lists.now c.loop-s.s c.index-lists-s.result _ c.loop-s-test.true
    c.index-lists-s.is c.as_slice.ensures.value in
    record {
      few =
          omega (
            arith,
            ap length c.in_ok-push.ensures.items,
            length_push c.loop-s.sets.items c.in_ok-set.set,
            c.loop-s.invariant.few,
          );
      bounds = subst (AllWithin c.args.bound) (sym c.in_ok-push.ensures.items)
          (All-push (λ (set : List Bool). length set ≡ c.args.bound) c.loop-s.sets.items
          c.in_ok-set.set c.loop-s.invariant.bounds c.in_ok-set.ensures.bound);
      sets =
          sets_more (rows c.args.lists.now) c.loop-s.sets.items c.push.new.self.items c.loop-s.s
          c.in_ok-set.set list c.loop-s.invariant.few c.loop-s.invariant.sets
          c.in_ok-push.ensures.items
          c.in_ok-set.ensures.members (row_needs c.args.lists.now c.loop-s.s list row);
    }

pub returns-clause-few : goal.returns-clause-few
returns-clause-few c =
    c.loop-s.invariant.few ∙ same_end c.loop-s.s (length c.args.lists.now) c.loop-s.auto.s-end
    c.loop-s-test.false

pub returns-clause-bounds : goal.returns-clause-bounds
returns-clause-bounds c = c.loop-s.invariant.bounds

pub returns-clause-sets : goal.returns-clause-sets
returns-clause-sets c s low =
    c.loop-s.invariant.sets s
    (subst (λ n. s < n)
    (sym (same_end c.loop-s.s (length c.args.lists.now) c.loop-s.auto.s-end c.loop-s-test.false))
    low)
