use Rattle.std.proofs.Common.{◌≡◌, map, take, string_bytes}
use Rattle.rc_script.proofs.options.strings_of.Given as goal

abbrev pub invariant-loop-word : goal.invariant-loop-word
invariant-loop-word l =
    map string_bytes l.strings.items ≡ map (λ word. word.now) (take l.word-index l.words)
