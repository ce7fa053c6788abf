use Rattle.std.proofs.Common.{◌≡◌, ◌++◌, take}
use Rattle.rc_render.specs.DotText.{edge_lines, need_end}
use Rattle.rc_render.specs.Lines.{names_at}
use Rattle.rc_render.proofs.dot.add_needs.Given as goal

-- the edges so far
abbrev pub invariant-loop-need : goal.invariant-loop-need
invariant-loop-need l =
    l.text.items ≡ l.fn.text.items ++ edge_lines need_end l.name
    (names_at l.names (take l.need-index l.needs))
