use Rattle.std.proofs.Common.{◌≡◌, ◌∙◌, ℕ, ◌+◌, ◌↔◌, Bool, List, [], length, take, get_or, Contains}
use Rattle.std.proofs.Common.{refl, sym, subst}
use Rattle.rc_model.specs.Names.{Has}
use Rattle.rc_model.specs.Graph.{Needs}
use Rattle.rc_compile.proofs.Needing.{Beside, gained, gained_as, one_more, none_yet, all_of}
use Rattle.rc_compile.proofs.Needing.{for_one, set_read, listed_below}
use Rattle.rc_compile.proofs.needs.need_sets.Goals as goal

pub loop-b-init : goal.loop-b-init
loop-b-init c = record {
  bound = refl;
  pairs =
      none_yet (λ b t. Has (get_or c.args.sets.now b []) t) c.args.service c.args.list.now
      (Needs c.args.draft.now);
}

pub need_all-requires-clause-known : goal.need_all-requires-clause-known
need_all-requires-clause-known c =
    let set = set_read c.args.sets.now (get_or c.args.list.now c.loop-b.b-index 0)
    c.index-sets-b.result (c.requires.known c.loop-b.b-index 0 c.loop-b-test.true)
    c.index-sets-b.is in
    let Listed : List ℕ → Type 0 = λ ids. (t : ℕ) → Contains ids t ↔ Has c.index-sets-b.result t in
    let listed = subst Listed (sym c.deref.ensures.value) c.in_ok-members.ensures.same in
    let b = get_or c.args.list.now c.loop-b.b-index 0 in
    let long : length c.index-sets-b.result ≡ length c.args.draft.now =
    subst (λ (set : List Bool). length set ≡ length c.args.draft.now) set
    (c.requires.bounds b [] (c.requires.known c.loop-b.b-index 0 c.loop-b-test.true)) in
    listed_below c.index-sets-b.result c.deref.result.now (length c.loop-b.draft)
    (long ∙ sym c.loop-b.invariant.bound) listed

pub loop-b-preserved : goal.loop-b-preserved
loop-b-preserved c =
    let set = set_read c.args.sets.now (get_or c.args.list.now c.loop-b.b-index 0)
    c.index-sets-b.result (c.requires.known c.loop-b.b-index 0 c.loop-b-test.true)
    c.index-sets-b.is in
    let Listed : List ℕ → Type 0 = λ ids. (t : ℕ) → Contains ids t ↔ Has c.index-sets-b.result t in
    let listed = subst Listed (sym c.deref.ensures.value) c.in_ok-members.ensures.same in
    let i = c.loop-b.b-index in
    let list = c.args.list.now in
    let x = get_or list i 0 in
    let P : ℕ → ℕ → Type 0 = λ b t. Has (get_or c.args.sets.now b []) t in
    let B : ℕ → ℕ → ℕ → Type 0 = λ n. Beside P c.args.service (take n list) in
    let HasIt : ℕ → Type 0 = λ t. Has c.index-sets-b.result t in
    let at : (t : ℕ)
    → Contains c.deref.result.now t
    ↔ P x t = subst (λ (set : List Bool). (t : ℕ) → Contains c.deref.result.now t ↔ Has set t)
    (sym set) listed in
    record {
      bound = c.need_all.ensures.bound ∙ c.loop-b.invariant.bound;
      pairs =
          gained (Needs c.args.draft.now) (Needs c.loop-b.draft) (Needs c.need_all.new.draft) (B i)
          (λ s t. (s ≡ c.args.service) × P x t) (B (i + 1))
          c.loop-b.invariant.pairs
          (gained_as (Needs c.loop-b.draft) (Needs c.need_all.new.draft)
          (λ s t. (s ≡ c.args.service) × Contains c.deref.result.now t)
          (λ s t. (s ≡ c.args.service) × P x t)
          c.in_ok-need_all.ensures.pairs
          (for_one (Contains c.deref.result.now) (P x) c.args.service at))
          (one_more P c.args.service list i x c.loop-b-test.true refl);
    }

pub returns-clause-pairs : goal.returns-clause-pairs
returns-clause-pairs c =
    let list = c.args.list.now in
    let P : ℕ → ℕ → Type 0 = λ b t. Has (get_or c.args.sets.now b []) t in
    gained_as (Needs c.args.draft.now) (Needs c.loop-b.draft)
    (Beside P c.args.service (take c.loop-b.b-index list)) (Beside P c.args.service list)
    c.loop-b.invariant.pairs (all_of P c.args.service list c.loop-b.b-index c.loop-b-test.false)
