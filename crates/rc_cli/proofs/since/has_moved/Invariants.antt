use Rattle.std.proofs.Common.{◌≡◌, drop, map}
use Rattle.rc_cli.specs.Since.{has_moved}
use Rattle.rc_cli.proofs.since.has_moved.Given as goal

-- none that is passed is the sign and the name
abbrev pub invariant-loop-word : goal.invariant-loop-word
invariant-loop-word l = has_moved (map (λ word. word.now) l.words) l.sign l.name
    ≡ has_moved (map (λ word. word.now) (drop l.word-index l.words)) l.sign l.name
