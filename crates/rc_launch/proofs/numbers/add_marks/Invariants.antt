use Rattle.std.proofs.Common.{◌≡◌, ◌∷◌, ◌++◌, false, replicate}
use Rattle.rc_launch.proofs.numbers.add_marks.Given as goal

-- the marks between the first and the last so far
abbrev pub invariant-loop-turn : goal.invariant-loop-turn
invariant-loop-turn l =
    l.marks.items ≡ l.fn.marks.items ++ l.first ∷ replicate l._turn false
