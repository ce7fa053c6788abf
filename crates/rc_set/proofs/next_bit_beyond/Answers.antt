use Rattle.std.proofs.Common.{◌-◌, ◌/◌, ◌^◌, slice_index, bit_and, arith}
use Rattle.rc_set.specs.Words.{HasBit}
use Rattle.rc_set.proofs.Nexts.{word_bits_beyond, beyond_fits, next_rest, none_rest}
use Rattle.rc_set.proofs.next_bit_beyond.Goals as goal

pub returns-then-rest-ne0-clause-some : goal.returns-then-rest-ne0-clause-some
returns-then-rest-ne0-clause-some c =
    let words = c.args.words.now in
    let others = c.args.others.now in
    let at = c.loop-at.at in
    let word = slice_index words (at / 64) in
    let other = slice_index others (at / 64) in
    next_rest (λ s. HasBit words s × (HasBit others s → ⊥)) c.args.from at
    (bit_and word (2 ^ 64 - 1 - other))
    (word_bits_beyond words others (at / 64) (c.type_inv.others (at / 64)).fits)
    (beyond_fits word other (c.type_inv.words (at / 64)).fits)
    c.loop-at.invariant.behind c.loop-at.invariant.none (omega arith)

pub loop-at-preserved : goal.loop-at-preserved
loop-at-preserved c =
    let words = c.args.words.now in
    let others = c.args.others.now in
    let at = c.loop-at.at in
    let word = slice_index words (at / 64) in
    let other = slice_index others (at / 64) in
    record {
      behind = omega (arith, c.loop-at.invariant.behind);
      none =
          none_rest (λ s. HasBit words s × (HasBit others s → ⊥)) c.args.from at
          (bit_and word (2 ^ 64 - 1 - other))
          (word_bits_beyond words others (at / 64) (c.type_inv.others (at / 64)).fits)
          (beyond_fits word other (c.type_inv.words (at / 64)).fits)
          c.loop-at.invariant.behind c.loop-at.invariant.none (omega arith);
    }
