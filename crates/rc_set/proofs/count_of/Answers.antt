use Rattle.std.proofs.Common.{◌*◌, get_or, arith}
use Rattle.std.proofs.lemmas.Nat.{ones-le}
use Rattle.rc_set.proofs.Counts.{counted_word, counted_at_most}
use Rattle.rc_set.proofs.count_of.Goals as goal

pub overflow_add-count : goal.overflow_add-count
overflow_add-count c =
    let few = counted_at_most c.args.words.now (64 * c.loop-word.word-index) in
    let word =
    ones-le 64 (get_or c.args.words.now c.loop-word.word-index 0)
    (c.type_inv.words c.loop-word.word-index).fits in
    record { fits = omega (arith, few, word) }

pub loop-word-preserved : goal.loop-word-preserved
loop-word-preserved c =
    let more =
    counted_word c.args.words.now c.loop-word.word-index
    (c.type_inv.words c.loop-word.word-index).fits in
    omega (arith, more)
