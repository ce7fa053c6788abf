use Rattle.std.proofs.Common.{map, take}
use Rattle.rc_args.specs.Listed.{AreSpelled}
use Rattle.rc_args.specs.Reading.{listed_of}
use Rattle.rc_args.proofs.transitions.listed.Given as goal

-- the transitions of the words so far
abbrev pub invariant-loop-word : goal.invariant-loop-word
invariant-loop-word l =
    AreSpelled (take l.word-index (map (λ w. w.now) l.words)) (map listed_of l.all.items)
