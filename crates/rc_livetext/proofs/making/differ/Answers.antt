use Rattle.std.proofs.Common.{◌∙◌, arith, refl, sym}
use Rattle.std.proofs.lemmas.Bool.{false≢true}
use Rattle.rc_livetext.specs.Parts.{IsWithin}
use Rattle.rc_livetext.proofs.Pairs.{differ_more, in_turn, not_in_turn, pair_at}
use Rattle.rc_livetext.proofs.making.differ.Goals as goal

pub are_same-requires : goal.are_same-requires
are_same-requires c =
    let first = pair_at (IsWithin c.requires.0) c.args.held.now _ c.index-held-place.result
    c.requires.1 (omega arith) c.index-held-place.is in
    let second = pair_at (IsWithin c.requires.0) c.args.held.now _
    c.index-held-place-in-loop-place.result c.requires.1 c.loop-place-test.true
    c.index-held-place-in-loop-place.is in
    first.live ∙ sym second.live

pub returns-then-are_same : goal.returns-then-are_same
returns-then-are_same c = (
  λ bad. absurd (false≢true bad),
  λ differ. absurd
      (not_in_turn c.args.held.now c.loop-place.place c.index-held-place.result
      c.index-held-place-in-loop-place.result (omega arith) c.loop-place-test.true
      c.index-held-place.is c.index-held-place-in-loop-place.is
      (c.are_same.ensures.0 c.if-are_same.true) differ),
)

pub loop-place-preserved : goal.loop-place-preserved
loop-place-preserved c =
    differ_more c.args.held.now c.loop-place.place c.index-held-place.result
    c.index-held-place-in-loop-place.result (omega arith) c.loop-place-test.true
    c.index-held-place.is c.index-held-place-in-loop-place.is
    (λ same. false≢true (sym c.if-are_same.false ∙ c.are_same.ensures.1 same))
    c.loop-place.invariant

pub returns : goal.returns
returns c = (
  (λ _. in_turn c.args.held.now c.loop-place.place c.loop-place-test.false
      c.loop-place.invariant),
  λ _. refl,
)
