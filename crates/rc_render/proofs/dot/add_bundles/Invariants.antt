use Rattle.std.proofs.Common.{◌≡◌, ◌++◌, take}
use Rattle.std.specs.List.{flat_map}
use Rattle.rc_render.specs.DotText.{bundle_lines}
use Rattle.rc_render.proofs.dot.add_bundles.Given as goal

-- the bundles so far
abbrev pub invariant-loop-place : goal.invariant-loop-place
invariant-loop-place l =
    l.text.items ≡ l.fn.text.items ++ flat_map (bundle_lines l.names) (take l.place l.table)
