use Rattle.std.proofs.Common.{◌≡◌, ◌∙◌, ◌⊎◌, ◌↔◌, ℕ, List, Contains, get_or, take, subst}
use Rattle.std.proofs.lemmas.List.{take_more, take_all}
use Rattle.rc_model.specs.Graph.{Needs}
use Rattle.rc_compile.proofs.Drafts.{needs_more}
use Rattle.rc_compile.proofs.members.graph.need_all.Goals as goal

pub loop-t-preserved : goal.loop-t-preserved
loop-t-preserved c =
    let list = c.args.list.now in
    let i = c.loop-t.t-index in
    record {
      bound = c.need.ensures.bound ∙ c.loop-t.invariant.bound;
      pairs =
          rw (take_more list i 0 c.loop-t-test.true)
          (needs_more c.args.draft.now c.loop-t.draft c.need.new.self c.args.id (get_or list i 0)
          (take i list) c.loop-t.invariant.pairs c.in_ok-need.ensures.pairs);
    }

pub returns-clause-pairs : goal.returns-clause-pairs
returns-clause-pairs c =
    subst (λ (ids : List ℕ). (s t : ℕ)
    → Needs c.loop-t.draft s t ↔ (Needs c.args.draft.now s t ⊎ ((s ≡ c.args.id) × Contains ids t)))
    (take_all c.loop-t.t-index c.args.list.now c.loop-t-test.false) c.loop-t.invariant.pairs
