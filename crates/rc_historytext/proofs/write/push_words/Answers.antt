use Rattle.std.proofs.Common.{◌∙◌, ◌∷◌, ◌++◌, [], ℕ, List, ap, map, arith}
use Rattle.std.proofs.lemmas.List.{take_all}
use Rattle.rc_dbtext.specs.Lines.{words_after_spaces}
use Rattle.rc_dbtext.proofs.LineLemmas.{line_of}
use Rattle.rc_historytext.proofs.write.push_words.Goals as goal

pub returns : goal.returns
returns c =
    c.in_ok-extend_from_slice-2.ensures.items
    ∙ (ap (λ (t : List ℕ). t ++ 10 ∷ [])
    (c.loop-word.invariant
    ∙ ap (λ ws. (c.args.out.now.items ++ c.args.first.now)
    ++ words_after_spaces (map (λ word. word.now) ws))
    (take_all c.loop-word.word-index c.args.others.now (omega arith)))
    ∙ line_of c.args.out.now.items c.args.first.now (map (λ word. word.now) c.args.others.now))
