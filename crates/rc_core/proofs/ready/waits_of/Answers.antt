use Rattle.std.proofs.Common.{◌∙◌, length, subst, sym, ap}
use Rattle.std.proofs.lemmas.List.{length-replicate}
use Rattle.rc_core.specs.Ready.{IsCountDown}
use Rattle.rc_core.proofs.Passing.{none_waited}
use Rattle.rc_core.proofs.ready.waits_of.Goals as goal

pub count_needing-requires-clause-bound : goal.count_needing-requires-clause-bound
count_needing-requires-clause-bound c =
    let zeros = c.in_ok-waits.ensures.items_if_clones_equal (λ y e. e) in
    ap length zeros ∙ length-replicate c.len.result 0 ∙ c.len.ensures.count

pub returns-clause-bound : goal.returns-clause-bound
returns-clause-bound c =
    let zeros = c.in_ok-waits.ensures.items_if_clones_equal (λ y e. e) in
    c.count_needed.ensures.bound ∙ c.count_needing.ensures.bound ∙ ap length zeros
    ∙ length-replicate c.len.result 0 ∙ c.len.ensures.count

pub returns-clause-counts : goal.returns-clause-counts
returns-clause-counts c s low =
    let zeros = c.in_ok-waits.ensures.items_if_clones_equal (λ y e. e) in (
      λ raise. c.count_needed.ensures.counts s raise,
      λ idle lower.
          subst (IsCountDown c.args.graph.now c.args.up.now s)
          (sym (c.count_needed.ensures.same s idle)) (c.count_needing.ensures.counts s lower),
      λ idle still.
          c.count_needed.ensures.same s idle ∙ c.count_needing.ensures.same s still
          ∙ none_waited c.len.result s c.in_ok-waits.waits.items zeros,
    )
