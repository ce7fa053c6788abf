use Rattle.std.proofs.Common.{inl, inr, arith}
use Rattle.std.proofs.lemmas.Bool.{cases_lt}
use Rattle.std.proofs.lemmas.List.{get_or_past}
use Rattle.rc_set.proofs.Bits.{left_bits}
use Rattle.rc_set.proofs.clear_words.Goals as goal

pub returns : goal.returns
returns c =
    left_bits c.args.words.now c.args.others.now c.loop-i.words (λ k. (c.type_inv.others k).fits)
    (λ k. elim (cases_lt k c.loop-i.i) [
      | inl low ↦ c.loop-i.invariant.passed k low
      | inr high ↦ (
          let first = get_or_past c.loop-i.words k 0 (omega arith) in
          let second = get_or_past c.args.words.now k 0 (omega arith) in
          rw (first, second)
          )
    ])
