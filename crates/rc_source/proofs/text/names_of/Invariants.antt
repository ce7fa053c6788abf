use Rattle.std.proofs.Common.{◌≡◌, All, filter, map, take}
use Rattle.rc_model.specs.Names.{IsName}
use Rattle.rc_source.specs.Texts.{counts, trimmed_line}
use Rattle.rc_source.proofs.text.names_of.Given as goal

abbrev pub invariant-loop-line : goal.invariant-loop-line
invariant-loop-line l =
    (l.names.items
    ≡ filter counts (map trimmed_line (map (λ line. line.now) (take l.line-index l.line-items))))
    × All IsName
    (filter counts (map trimmed_line (map (λ line. line.now) (take l.line-index l.line-items))))
