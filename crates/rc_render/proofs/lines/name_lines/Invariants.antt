use Rattle.std.proofs.Common.{◌≡◌, map, take}
use Rattle.rc_render.specs.Lines.{name_lines}
use Rattle.rc_render.proofs.lines.name_lines.Given as goal

-- the lines so far
abbrev pub invariant-loop-name : goal.invariant-loop-name
invariant-loop-name l =
    l.text.items ≡ name_lines (map (λ name. name.now) (take l.name-index l.names))
