use Rattle.std.proofs.Common.{◌≡◌, ◌++◌, take}
use Rattle.std.specs.List.{flat_map}
use Rattle.rc_render.specs.JournalText.{alteration_text}
use Rattle.rc_render.proofs.journal.add_edit.Given as goal

-- the bundles so far
abbrev pub invariant-loop-place : goal.invariant-loop-place
invariant-loop-place l =
    l.text.items ≡ l.fn.text.items ++ flat_map (alteration_text l.names) (take l.place l.edit)
