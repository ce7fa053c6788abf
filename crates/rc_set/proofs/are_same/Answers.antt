use Rattle.std.proofs.Common.{ℕ, List, slice_index, refl, ap, sym, arith}
use Rattle.std.proofs.lemmas.Bool.{false≢true}
use Rattle.std.proofs.lemmas.List.{ext_get_or}
use Rattle.rc_set.specs.Words.{has_bit}
use Rattle.rc_set.proofs.Flags.{same_words}
use Rattle.rc_set.proofs.are_same.Goals as goal

pub returns-then-words-i : goal.returns-then-words-i
returns-then-words-i c = (
  λ bad. absurd (false≢true bad),
  λ each. absurd
      (c.if-words-i.true
      (ap (λ (ws : List ℕ). slice_index ws c.loop-i.i)
      (same_words c.args.words.now c.args.others.now c.requires (λ k. (c.type_inv.words k).fits)
      (λ k. (c.type_inv.others k).fits) each))),
)

pub returns : goal.returns
returns c = (
  λ _ s. ap (λ (ws : List ℕ). has_bit ws s)
      (ext_get_or 0 c.args.words.now c.args.others.now (sym c.requires)
      (λ k within. c.loop-i.invariant k (omega arith))),
  λ _. refl,
)
