use Rattle.std.proofs.Common.{slice_index, ◌+◌, ◌*◌, ◌/◌, inl, inr, arith}
use Rattle.std.proofs.lemmas.Bool.{cases_lt}
use Rattle.rc_set.specs.Words.{HasBit}
use Rattle.rc_set.proofs.Nexts.{word_bits, next_rest, none_rest}
use Rattle.rc_set.proofs.next_bit.Goals as goal

pub returns-then-rest-ne0-clause-some : goal.returns-then-rest-ne0-clause-some
returns-then-rest-ne0-clause-some c =
    let words = c.args.words.now in
    let at = c.loop-at.at in
    next_rest (HasBit words) c.args.from at (slice_index words (at / 64))
    (word_bits words (at / 64)) (c.type_inv.words (at / 64)).fits c.loop-at.invariant.behind
    c.loop-at.invariant.none (omega arith)

pub loop-at-preserved : goal.loop-at-preserved
loop-at-preserved c =
    let words = c.args.words.now in
    let at = c.loop-at.at in
    record {
      behind = omega (arith, c.loop-at.invariant.behind, c.next_word.ensures.behind);
      none = λ s from low has. elim (cases_lt s ((at / 64 + 1) * 64)) [
        | inl here ↦
            none_rest (HasBit words) c.args.from at (slice_index words (at / 64))
            (word_bits words (at / 64)) (c.type_inv.words (at / 64)).fits
            c.loop-at.invariant.behind c.loop-at.invariant.none (omega arith) s from here has
        | inr behind ↦ c.next_word.ensures.none s (omega arith) (omega arith) has
      ];
    }
