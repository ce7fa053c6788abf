use Rattle.std.proofs.Common.{◌≡◌, ◌++◌, ℕ, List, take}
use Rattle.rc_launch.proofs.JournalLines.{AddsLines}
use Rattle.rc_launch.proofs.journal.add_generations.Given as goal

-- the lines of the generations so far
abbrev pub invariant-loop-place : goal.invariant-loop-place
invariant-loop-place l = (lines : List ℕ)
    × AddsLines 0 l.first (take l.place l.form.generations) lines
    × (l.text.items ≡ l.fn.text.items ++ lines)
