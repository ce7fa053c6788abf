use Rattle.std.proofs.Common.{◌≡◌, take}
use Rattle.rc_render.specs.Lines.{name_lines, names_at}
use Rattle.rc_render.proofs.lines.id_lines.Given as goal

-- the lines so far
abbrev pub invariant-loop-id : goal.invariant-loop-id
invariant-loop-id l = l.text.items ≡ name_lines (names_at l.names (take l.id-index l.ids))
