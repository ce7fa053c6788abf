use Rattle.std.proofs.Common.{◌≡◌, ◌∙◌, ℕ, ◌+◌, ◌<◌, ◌↔◌, [], length, get_or, Contains, refl, arith}
use Rattle.std.proofs.lemmas.List.Elements.{Contains-get_or}
use Rattle.rc_model.specs.Names.{Has}
use Rattle.rc_model.specs.Graph.{Needs}
use Rattle.rc_compile.specs.Rows.{rows}
use Rattle.rc_graph.proofs.RowLemmas.{needer_known}
use Rattle.rc_compile.proofs.RowLemmas.{row_is, row_needs, length-rows}
use Rattle.rc_compile.proofs.Needing.{gained, gained_as, nothing_gained, one_passed, all_passed}
use Rattle.rc_compile.proofs.Needing.{for_one}
use Rattle.rc_compile.proofs.needs.need_bundles.Goals as goal

pub loop-s-init : goal.loop-s-init
loop-s-init c = record {
  bound = refl;
  pairs =
      nothing_gained (Needs c.args.draft.now)
      (λ s t. (s < 0)
      × ((b : ℕ) × Needs (rows c.args.lists.now) s b × Has (get_or c.args.sets.now b []) t))
      (λ s t (low, need). absurd (omega (arith, low)));
}

pub need_sets-requires-clause-known : goal.need_sets-requires-clause-known
need_sets-requires-clause-known c k d within =
    let b = get_or c.as_slice.result.now k d in
    c.requires.known c.loop-s.s b
    ((row_needs c.args.lists.now c.loop-s.s c.as_slice.result.now
    (row_is c.args.lists.now c.loop-s.s c.index-lists-s.result _ (omega arith) c.index-lists-s.is
    c.as_slice.ensures.value) b).1 (Contains-get_or c.as_slice.result.now k d within))

pub loop-s-preserved : goal.loop-s-preserved
loop-s-preserved c =
    let i = c.loop-s.s in
    let HasAt : ℕ → ℕ → Type 0 = λ b t. Has (get_or c.args.sets.now b []) t in
    let P : ℕ → ℕ → Type 0 = λ s t. (b : ℕ) × Needs (rows c.args.lists.now) s b × HasAt b t in
    let Q : ℕ → Type 0 = λ t. (b : ℕ) × Contains c.as_slice.result.now b × HasAt b t in
    let read = row_is c.args.lists.now i c.index-lists-s.result _ (omega arith) c.index-lists-s.is
    c.as_slice.ensures.value in
    let row = row_needs c.args.lists.now i c.as_slice.result.now read in
    let at : (t : ℕ)
    → Q t ↔ P i t =
    λ t. (
      λ (b, there, has). (b, (row b).1 there, has),
      λ (b, need, has). (b, (row b).0 need, has),
    ) in
    record {
      bound = c.need_sets.ensures.bound ∙ c.loop-s.invariant.bound;
      pairs =
          gained (Needs c.args.draft.now) (Needs c.loop-s.draft) (Needs c.need_sets.new.draft)
          (λ s t. (s < i) × P s t) (λ s t. (s ≡ i) × P i t) (λ s t. (s < i + 1) × P s t)
          c.loop-s.invariant.pairs
          (gained_as (Needs c.loop-s.draft) (Needs c.need_sets.new.draft) (λ s t. (s ≡ i) × Q t)
          (λ s t. (s ≡ i) × P i t) c.in_ok-need_sets.ensures.pairs (for_one Q (P i) i at))
          (one_passed P i);
    }

pub returns-clause-pairs : goal.returns-clause-pairs
returns-clause-pairs c =
    let i = c.loop-s.s in
    let P : ℕ → ℕ → Type 0 =
    λ s t. (b : ℕ) × Needs (rows c.args.lists.now) s b × Has (get_or c.args.sets.now b []) t in
    gained_as (Needs c.args.draft.now) (Needs c.loop-s.draft) (λ s t. (s < i) × P s t) P
    c.loop-s.invariant.pairs
    (all_passed P i (λ s t (b, need, has). let low : s < length (rows c.args.lists.now) =
    needer_known (rows c.args.lists.now) s b need in omega (arith, length-rows c.args.lists.now)))
