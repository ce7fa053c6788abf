use Rattle.std.proofs.Common.{◌≡◌, ◌++◌, List, Bool, take}
use Rattle.rc_render.specs.JournalText.{AreMoves, signs}
use Rattle.rc_render.proofs.journal.add_signs.Given as goal

-- the services so far
abbrev pub invariant-loop-id : goal.invariant-loop-id
invariant-loop-id l = (from to : List Bool) → AreMoves from to l.up l.down
    → l.text.items ≡ l.fn.text.items ++ signs (take l.id l.names) (take l.id from) (take l.id to)
