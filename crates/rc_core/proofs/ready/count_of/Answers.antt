use Rattle.std.proofs.Common.{◌≡◌, ◌∙◌, ◌<◌, ℕ, List, false, take, Contains, slice_index}
use Rattle.std.proofs.Common.{slice_index_or, sym, subst, arith}
use Rattle.std.proofs.lemmas.List.{take_more, take_all}
use Rattle.rc_core.specs.Ready.{IsCount}
use Rattle.rc_core.proofs.Arriving.{beq-true, beq-false, none_counted, one_counted, one_passed_by}
use Rattle.rc_graph.proofs.RowLemmas.{at_least}
use Rattle.rc_core.proofs.Arriving.{above_front, same_truth}
use Rattle.rc_core.proofs.ready.count_of.Goals as goal
use Rattle.rc_core.proofs.ready.count_of.Goals.{then-contains-inside, else-contains-inside}

pub loop-service-init : goal.loop-service-init
loop-service-init c =
    record {
      counted = none_counted (λ t. slice_index_or c.args.set.now t false ≡ c.args.inside);
      few = omega arith;
    }

pub overflow_add-count : goal.overflow_add-count
overflow_add-count c =
    let k = c.loop-service.service-index in
    let far = at_least c.args.list.now k c.requires.list c.loop-service-test.true in
    let low = c.requires.known k 0 c.loop-service-test.true in
    record { fits = omega (arith, far, low, c.requires.few, c.loop-service.invariant.few) }

pub loop-service-preserved : goal.loop-service-preserved
loop-service-preserved c =
    let k = c.loop-service.service-index in
    let list = c.args.list.now in
    let set = c.args.set.now in
    let x = slice_index list k in
    let told : c.contains.result ≡ slice_index_or set x false =
    same_truth c.contains.result (slice_index_or set x false) c.contains.ensures in
    let above : (s : ℕ) → Contains (take k list) s → s < x =
    λ s there. above_front list k s c.requires.list c.loop-service-test.true there in
    rw (take_more list k 0 c.loop-service-test.true) (elim c.if-contains-inside.branch [
      | then-contains-inside w ↦ rw w.count-is (record {
        counted =
            one_counted (λ t. slice_index_or set t false ≡ c.args.inside) (take k list)
            c.loop-service.count x c.loop-service.invariant.counted above
            (sym told ∙ beq-true c.contains.result c.args.inside w.if-contains-inside.true);
        few = omega (arith, c.loop-service.invariant.few);
      })
      | else-contains-inside w ↦ rw w.count-is (record {
        counted =
            one_passed_by (λ t. slice_index_or set t false ≡ c.args.inside) (take k list)
            c.loop-service.count x c.loop-service.invariant.counted
            (λ same.
            beq-false c.contains.result c.args.inside w.if-contains-inside.false (told ∙ same));
        few = omega (arith, c.loop-service.invariant.few);
      })
    ])

pub returns : goal.returns
returns c =
    subst (λ (xs : List ℕ).
    IsCount (λ t. Contains xs t × (slice_index_or c.args.set.now t false ≡ c.args.inside))
    c.loop-service.count)
    (take_all c.loop-service.service-index c.args.list.now c.loop-service-test.false)
    c.loop-service.invariant.counted
