use Rattle.std.proofs.Common.{◌≡◌, ◌++◌, map, take}
use Rattle.rc_dbtext.specs.Lines.{words_after_spaces}
use Rattle.rc_dbtext.specs.Spelling.{name_at}
use Rattle.rc_dbtext.proofs.lines.push_ids.Given as goal

-- the names so far are written
abbrev pub invariant-loop-id : goal.invariant-loop-id
invariant-loop-id l =
    l.out.items ≡ l.fn.out.items ++ words_after_spaces
    (map (name_at l.names) (take l.id-index l.ids))
