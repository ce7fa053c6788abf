use Rattle.std.proofs.Common.{map}
use Rattle.rc_source.specs.Said.{meaning_of}
use Rattle.rc_compile.proofs.Placing.{ArePlacedBelow}
use Rattle.rc_compile.proofs.services.places_of.Given as goal

-- the definitions passed stand beside their names
abbrev pub invariant-loop-place : goal.invariant-loop-place
invariant-loop-place l =
    ArePlacedBelow (map meaning_of l.definitions) l.names l.place l.places.items
