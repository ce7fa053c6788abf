use Rattle.std.proofs.Common.{◌+◌, refl, slice_index, subst, arith, ℕ}
use Rattle.std.specs.Int.{trailing_zeros}
use mir.Syntax.{w64}
use Rattle.rc_set.specs.Listed.{ListsWord}
use Rattle.rc_set.proofs.WordIds.{word_more, word_begins, word_ends}
use Rattle.rc_set.proofs.WordBits.{left_falls}
use Rattle.rc_set.proofs.push_ids.Goals as goal

pub loop-left-init : goal.loop-left-init
loop-left-init c =
    (0, word_begins c.args.words.now c.args.at c.args.ids.now.items c.requires.listed)

pub loop-left-preserved : goal.loop-left-preserved
loop-left-preserved c =
    let left = c.loop-left.left in
    let place = trailing_zeros w64 left in
    let lists = c.loop-left.invariant.1 in (
      place + 1,
      rw c.in_ok-push.ensures.items
          (word_more c.args.words.now c.args.at left c.loop-left.ids.items c.loop-left.invariant.0
          (omega arith) c.loop-left.auto.left-fits.fits lists place refl),
    )

pub loop-left-smaller : goal.loop-left-smaller
loop-left-smaller c =
    left_falls (slice_index c.args.words.now c.args.at) c.loop-left.left
    c.loop-left.invariant.0 (trailing_zeros w64 c.loop-left.left) (omega arith)
    c.loop-left.auto.left-fits.fits refl c.loop-left.invariant.1.bits

pub returns : goal.returns
returns c =
    word_ends c.args.words.now c.args.at c.loop-left.ids.items c.loop-left.invariant.0
    (subst (λ (left : ℕ).
    ListsWord c.args.words.now c.args.at left c.loop-left.ids.items c.loop-left.invariant.0)
    c.loop-left-test.false c.loop-left.invariant.1)
