use Rattle.std.proofs.Common.{◌≡◌, take}
use Rattle.rc_render.specs.Names.{bundles_text}
use Rattle.rc_render.proofs.stand.bundles_text.Given as goal

-- the lines so far
abbrev pub invariant-loop-place : goal.invariant-loop-place
invariant-loop-place l = l.text.items ≡ bundles_text l.names (take l.place l.table)
