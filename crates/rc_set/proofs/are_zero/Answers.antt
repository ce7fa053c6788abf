use Rattle.std.proofs.Common.{refl, arith}
use Rattle.std.proofs.lemmas.Bool.{false≢true}
use Rattle.rc_set.proofs.Flags.{zero_words}
use Rattle.rc_set.proofs.are_zero.Goals as goal

pub returns-then-words-i-ne0 : goal.returns-then-words-i-ne0
returns-then-words-i-ne0 c = (
  λ bad. absurd (false≢true bad),
  λ none. absurd
      (c.if-words-i-ne0.true
      ((zero_words c.args.words.now (λ k. (c.type_inv.words k).fits)).1 none c.loop-i.i
      (omega arith))),
)

pub returns : goal.returns
returns c = (
  λ _. (zero_words c.args.words.now (λ k. (c.type_inv.words k).fits)).0
      (λ k within. c.loop-i.invariant k (omega arith)),
  λ _. refl,
)
