use Rattle.std.proofs.Common.{◌≡◌, ◌∷◌, ◌++◌, take}
use Rattle.std.specs.List.{flat_map}
use Rattle.rc_render.specs.DotText.{quoted_byte}
use Rattle.rc_render.proofs.dot.add_quoted.Given as goal

-- the bytes so far
abbrev pub invariant-loop-byte : goal.invariant-loop-byte
invariant-loop-byte l =
    l.text.items ≡ l.fn.text.items ++ 34 ∷ flat_map quoted_byte (take l.byte-index l.name)
