use Rattle.std.proofs.Common.{◌+◌, ◌-◌, ◌*◌, ◌^◌, slice_index, refl, subst, arith, ℕ}
use Rattle.std.specs.Int.{trailing_zeros}
use mir.Syntax.{w64}
use Rattle.rc_set.proofs.Fillings.{IsClearIn, FillsWord, none_filled, one_filled, none_more}
use Rattle.rc_set.proofs.Fillings.{clear_there, clear_more, clear_before, word_filled}
use Rattle.rc_set.proofs.WordBits.{all_left, next_bits, left_falls}
use Rattle.rc_set.proofs.fill_word.Goals as goal
use Rattle.rc_set.proofs.fill_word.Goals.{then-id-list, else-id-list}

pub loop-left-init : goal.loop-left-init
loop-left-init g c =
    let words = c.args.words.now in (
      0,
      record {
        bits = all_left (2 ^ 64 - 1 - slice_index words c.args.at);
        fills =
            none_filled (IsClearIn words c.args.at 0) c.args.list.now c.args.value
            (λ s in'. omega (arith, in'.0, in'.1));
      },
    )

pub loop-left-smaller : goal.loop-left-smaller
loop-left-smaller g c =
    left_falls (2 ^ 64 - 1 - slice_index c.args.words.now c.args.at) c.loop-left.left
    c.loop-left.invariant.0 (trailing_zeros w64 c.loop-left.left) (omega arith)
    c.loop-left.auto.left-fits.fits refl c.loop-left.invariant.1.bits

pub loop-left-preserved : goal.loop-left-preserved
loop-left-preserved g c =
    let words = c.args.words.now in
    let at = c.args.at in
    let left = c.loop-left.left in
    let next = c.loop-left.invariant.0 in
    let so_far = c.loop-left.invariant.1 in
    let place = trailing_zeros w64 left in
    let fit = (c.type_inv.words at).fits in
    let fits = c.loop-left.auto.left-fits.fits in
    let from =
    clear_before words at left next place c.requires.place fit (omega arith) fits refl
    so_far.bits in
    let to =
    clear_more words at left next place c.requires.place fit (omega arith) fits refl
    so_far.bits in
    let here =
    clear_there words at left next place c.requires.place fit (omega arith) fits refl
    so_far.bits in
    let bits =
    next_bits (2 ^ 64 - 1 - slice_index words at) left next place (omega arith) fits refl
    so_far.bits in (
      place + 1,
      elim c.if-id-list.branch [
        | then-id-list w ↦ rw w.list-is (record {
          bits = bits;
          fills =
              one_filled (IsClearIn words at next) (IsClearIn words at (place + 1))
              c.args.list.now c.loop-left.list c.args.value (64 * at + place) so_far.fills from to
              here w.if-id-list.true;
        })
        | else-id-list w ↦ rw w.list-is (record {
          bits = bits;
          fills =
              none_more (IsClearIn words at next) (IsClearIn words at (place + 1))
              c.args.list.now c.loop-left.list c.args.value (64 * at + place) so_far.fills from to
              w.if-id-list.false;
        })
      ],
    )

pub returns : goal.returns
returns g c =
    let words = c.args.words.now in
    let at = c.args.at in
    word_filled words at c.loop-left.invariant.0 c.args.list.now c.loop-left.list c.args.value
    c.requires.place (c.type_inv.words at).fits
    (subst (λ (left : ℕ).
    FillsWord words at left c.loop-left.invariant.0 c.args.list.now c.loop-left.list c.args.value)
    c.loop-left-test.false c.loop-left.invariant.1)
