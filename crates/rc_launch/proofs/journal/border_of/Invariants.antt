use Rattle.std.proofs.Common.{◌≡◌, ◌++◌, codes, take}
use Rattle.std.specs.Fmt.{decimal}
use Rattle.std.specs.List.{flat_map}
use Rattle.rc_launch.specs.HistoryJournal.{rename_text}
use Rattle.rc_launch.proofs.journal.border_of.Given as goal

-- the renames so far
abbrev pub invariant-loop-rename : goal.invariant-loop-rename
invariant-loop-rename l = l.text.items ≡ (decimal l.fn.number ++ codes " update")
    ++ flat_map rename_text (take l.rename-index l.generation.renames)
