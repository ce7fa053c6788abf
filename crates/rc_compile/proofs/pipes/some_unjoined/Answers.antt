use Rattle.std.proofs.Common.{◌∙◌, List, ℕ, IsTrue, refl, sym, subst, true≢false, arith}
use Rattle.rc_model.proofs.Places.{contains_at}
use Rattle.rc_compile.specs.Book.{HasNamed}
use Rattle.rc_compile.proofs.Passing.{stands, passed_next, passed_all}
use Rattle.rc_compile.proofs.pipes.some_unjoined.Goals as goal

pub returns-then-not-can_join : goal.returns-then-not-can_join
returns-then-not-can_join c =
    let here = stands c.args.texts.now c.loop-text.text-index c.text-item.result (omega arith)
    c.text-item.is in
    let Not : List ℕ → Type 0 =
    λ w. IsTrue c.args.is_longrun × HasNamed c.args.names.now c.args.longruns.now w → ⊥ in (
      λ _. (
        c.text-item.result,
        contains_at c.args.texts.now c.loop-text.text-index c.text-item.result here,
        subst Not c.text.ensures.bytes
            (λ joined. true≢false (sym (c.can_join.ensures.1 joined) ∙ c.if-not-can_join.true)),
      ),
      λ _. refl,
    )

pub loop-text-preserved : goal.loop-text-preserved
loop-text-preserved c =
    let here = stands c.args.texts.now c.loop-text.text-index c.text-item.result (omega arith)
    c.text-item.is in
    let Joined : List ℕ → Type 0 =
    λ w. IsTrue c.args.is_longrun × HasNamed c.args.names.now c.args.longruns.now w in
    passed_next Joined c.args.texts.now c.loop-text.text-index c.text-item.result here
    c.loop-text.invariant (subst Joined c.text.ensures.bytes (c.if-not-can_join.ensures.0 refl))

pub returns : goal.returns
returns c =
    let Joined : List ℕ → Type 0 =
    λ w. IsTrue c.args.is_longrun × HasNamed c.args.names.now c.args.longruns.now w in (
      λ passed. absurd (true≢false (sym passed)),
      λ (text, there, fails). absurd
          (fails (passed_all Joined c.args.texts.now c.loop-text.text-index (omega arith)
          c.loop-text.invariant text there)),
    )
