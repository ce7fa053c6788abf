use Rattle.std.proofs.Common.{◌≡◌, ◌∙◌, ℕ, List, Bool, length, refl, sym, true≢false, arith}
use Rattle.rc_db.proofs.Fits.{at_place, one_more, at_each}
use Rattle.rc_db.proofs.fit.are_below.Goals as goal

pub returns-then-bound-clause-bounds : goal.returns-then-bound-clause-bounds
returns-then-bound-clause-bounds c =
    let Below : List ℕ × List Bool → Type 0 = λ bundle. length bundle.1 ≡ c.args.bound in (
      λ no. absurd (true≢false (sym no)),
      λ all. absurd (c.if-bound.true
          (c.bound.ensures.bound ∙ at_place Below c.args.table.now c.loop-place.place
          (c.at.result.0.now, c.at.result.1.now) all c.at.ensures)),
    )

pub loop-place-preserved : goal.loop-place-preserved
loop-place-preserved c =
    let Below : List ℕ × List Bool → Type 0 = λ bundle. length bundle.1 ≡ c.args.bound in
    one_more Below c.args.table.now c.loop-place.place (c.at.result.0.now, c.at.result.1.now)
    c.at.ensures
    (sym c.bound.ensures.bound ∙ c.if-bound.false) c.loop-place.invariant

pub returns-clause-bounds : goal.returns-clause-bounds
returns-clause-bounds c =
    let Below : List ℕ × List Bool → Type 0 = λ bundle. length bundle.1 ≡ c.args.bound in (
      λ _. at_each Below c.args.table.now c.loop-place.place (omega arith) c.loop-place.invariant,
      λ _. refl,
    )
