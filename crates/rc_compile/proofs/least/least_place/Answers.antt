use Rattle.std.proofs.Common.{◌∙◌, List, ℕ, sym, subst, true≢false, arith}
use Rattle.rc_model.specs.Names.{IsBefore}
use Rattle.rc_compile.proofs.Lowest.{first_lowest, lower, not_lower, lowest_is_least, test_less}
use Rattle.rc_compile.proofs.Lowest.{test_not_less}
use Rattle.rc_compile.proofs.Passing.{stands}
use Rattle.rc_compile.proofs.least.least_place.Goals as goal
use Rattle.rc_compile.proofs.least.least_place.Goals.{then-lt, else-lt}

pub loop-place-init : goal.loop-place-init
loop-place-init c = first_lowest c.args.names.now c.requires

pub loop-place-preserved : goal.loop-place-preserved
loop-place-preserved c =
    let names = c.args.names.now in
    let at_x = stands names c.loop-place.place c.index-names-place.result (omega arith)
    c.index-names-place.is in
    let at_y = stands names c.loop-place.least c.index-names-least.result
    c.loop-place.invariant.within c.index-names-least.is in
    let First : List ℕ → Type 0 = λ n. IsBefore n c.index-names-least.result in
    let Second : List ℕ → Type 0 = λ n. IsBefore c.text.result.now n in
    let First_text : List ℕ → Type 0 = λ n. IsBefore n c.text-in-loop-place.result.now in
    elim c.if-lt.branch [
      | then-lt w ↦
          let less = subst First c.text.ensures.bytes
          (subst Second c.text-in-loop-place.ensures.bytes
          (test_less c.text.result.now c.text-in-loop-place.result.now c.lt.result c.lt.ensures
          w.if-lt.true)) in
          rw w.least-is
          (lower names c.loop-place.place c.loop-place.least c.index-names-place.result
          c.index-names-least.result c.loop-place.invariant at_x at_y less)
      | else-lt w ↦
          rw w.least-is
          (not_lower names c.loop-place.place c.loop-place.least c.index-names-place.result
          c.index-names-least.result c.loop-place.invariant at_x at_y
          (λ before. test_not_less c.text.result.now c.text-in-loop-place.result.now c.lt.result
          c.lt.ensures (λ passed. true≢false (sym passed ∙ w.if-lt.false))
          (subst First_text (sym c.text.ensures.bytes)
          (subst (IsBefore c.index-names-place.result) (sym c.text-in-loop-place.ensures.bytes)
          before))))
    ]

pub returns-clause-least : goal.returns-clause-least
returns-clause-least c name there =
    lowest_is_least c.args.names.now c.loop-place.place c.loop-place.least (omega arith)
    c.loop-place.invariant name there
