use Rattle.std.proofs.Common.{◌*◌, inl, inr, arith}
use Rattle.std.proofs.lemmas.Bool.{cases_lt}
use Rattle.rc_set.proofs.Nexts.{empty_word}
use Rattle.rc_set.proofs.next_word.Goals as goal

pub loop-at-preserved : goal.loop-at-preserved
loop-at-preserved c =
    let words = c.args.words.now in
    let at = c.loop-at.at in
    record {
      behind = omega (arith, c.loop-at.invariant.behind);
      within = omega (arith, c.loop-at-test.true);
      none = λ s from low. elim (cases_lt s (64 * at)) [
        | inl before ↦ c.loop-at.invariant.none s from before
        | inr here ↦
            empty_word words at s here (omega arith) (omega (arith, c.if-words-at-ne0.false))
      ];
    }
