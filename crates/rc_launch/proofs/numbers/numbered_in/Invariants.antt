use Rattle.std.proofs.Common.{take}
use Rattle.rc_launch.proofs.Counting.{Counted}
use Rattle.rc_launch.proofs.numbers.numbered_in.Given as goal

-- the generations so far are counted
abbrev pub invariant-loop-place : goal.invariant-loop-place
invariant-loop-place l =
    Counted (take l.place l.form.generations) l.form.present l.at l.marks.items
