use Rattle.std.proofs.Common.{◌≡◌, ◌+◌, List, ℕ, ◌++◌, take}
use Rattle.rc_model.specs.Line.{states}
use Rattle.rc_render.specs.JournalText.{AreEntryLines}
use Rattle.rc_render.proofs.journal.add_entries.Given as goal

-- the lines of the entries so far
abbrev pub invariant-loop-place : goal.invariant-loop-place
invariant-loop-place l = (entries : List ℕ)
    × AreEntryLines l.db.names l.first (take (l.place + 1) (states l.line.line)) entries
    × (l.text.items ≡ l.fn.text.items ++ entries)
