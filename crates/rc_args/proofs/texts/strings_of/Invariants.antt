use Rattle.std.proofs.Common.{◌≡◌, map, take, string_bytes}
use Rattle.rc_args.proofs.texts.strings_of.Given as goal

-- the texts so far
abbrev pub invariant-loop-word : goal.invariant-loop-word
invariant-loop-word l =
    map string_bytes l.strings.items ≡ take l.word-index (map (λ w. w.now) l.words)
