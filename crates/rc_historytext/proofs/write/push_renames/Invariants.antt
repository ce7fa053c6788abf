use Rattle.std.proofs.Common.{◌≡◌, ◌++◌, take, map}
use Rattle.rc_dbtext.specs.Form.{spells}
use Rattle.rc_historytext.specs.Text.{OfRename, spell}
use Rattle.rc_historytext.proofs.write.push_renames.Given as goal

-- the lines so far
abbrev pub invariant-loop-rename : goal.invariant-loop-rename
invariant-loop-rename l =
    l.out.items ≡ l.fn.out.items ++ spells spell (map OfRename (take l.rename-index l.renames))
