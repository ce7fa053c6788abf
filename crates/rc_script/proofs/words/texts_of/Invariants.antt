use Rattle.std.proofs.Common.{◌≡◌, map, take, All}
use Rattle.std.specs.Str.{IsUtf8}
use Rattle.rc_script.proofs.words.texts_of.Given as goal

-- the words so far are texts
abbrev pub invariant-loop-word : goal.invariant-loop-word
invariant-loop-word l = record {
  so_far : map (λ text. text.now) l.texts.items
      ≡ take l.word-index (map (λ word. word.now) l.words);
  each : All IsUtf8 (map (λ text. text.now) l.texts.items);
}
