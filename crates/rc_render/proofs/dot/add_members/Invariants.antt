use Rattle.std.proofs.Common.{◌≡◌, ◌++◌, take}
use Rattle.rc_render.specs.DotText.{edge_lines, member_end}
use Rattle.rc_render.specs.Names.{names_in}
use Rattle.rc_render.proofs.dot.add_members.Given as goal

-- the edges so far
abbrev pub invariant-loop-id : goal.invariant-loop-id
invariant-loop-id l =
    l.text.items ≡ l.fn.text.items ++ edge_lines member_end l.name
    (names_in (take l.id l.names) (take l.id l.set))
