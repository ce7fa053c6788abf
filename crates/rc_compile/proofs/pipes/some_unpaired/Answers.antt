use Rattle.std.proofs.Common.{◌∙◌, refl, sym, true≢false, arith}
use Rattle.rc_model.proofs.Places.{contains_at}
use Rattle.rc_compile.specs.Rows.{rows}
use Rattle.rc_compile.specs.Book.{HasPair}
use Rattle.rc_compile.proofs.Passing.{stands, passed_next, passed_all}
use Rattle.rc_compile.proofs.pipes.some_unpaired.Goals as goal

pub returns-then-not-has_pair : goal.returns-then-not-has_pair
returns-then-not-has_pair c =
    let here =
    stands c.args.from.now c.loop-name.name-index c.name-item.result (omega arith)
    c.name-item.is in (
      λ _. (
        c.name-item.result,
        contains_at c.args.from.now c.loop-name.name-index c.name-item.result
            here,
        λ paired. true≢false (sym (c.has_pair.ensures.1 paired) ∙ c.if-not-has_pair.true),
      ),
      λ _. refl,
    )

pub loop-name-preserved : goal.loop-name-preserved
loop-name-preserved c =
    let here =
    stands c.args.from.now c.loop-name.name-index c.name-item.result (omega arith) c.name-item.is in
    passed_next (λ name. HasPair c.args.names.now (rows c.args.lists.now) name c.args.to.now)
    c.args.from.now c.loop-name.name-index c.name-item.result here c.loop-name.invariant
    (c.if-not-has_pair.ensures.0 refl)

pub returns : goal.returns
returns c = (
  λ passed. absurd (true≢false (sym passed)),
  λ (name, there, fails). absurd
      (fails
      (passed_all (λ name. HasPair c.args.names.now (rows c.args.lists.now) name c.args.to.now)
      c.args.from.now c.loop-name.name-index (omega arith) c.loop-name.invariant name there)),
)
