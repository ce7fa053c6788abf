use Rattle.std.proofs.Common.{◌≡◌, ◌++◌, take, map}
use Rattle.rc_dbtext.specs.Lines.{words_after_spaces}
use Rattle.rc_historytext.proofs.write.push_words.Given as goal

-- the words so far, a space before each
abbrev pub invariant-loop-word : goal.invariant-loop-word
invariant-loop-word l =
    l.out.items ≡ (l.fn.out.items ++ l.first)
    ++ words_after_spaces (map (λ word. word.now) (take l.word-index l.others))
