use Rattle.std.proofs.Common.{map}
use Rattle.rc_source.specs.Said.{meaning_of}
use Rattle.rc_compile.proofs.Placing.{AreDefinedBelow}
use Rattle.rc_compile.proofs.services.services_of.Given as goal

-- the services of the names passed
abbrev pub invariant-loop-place : goal.invariant-loop-place
invariant-loop-place l =
    AreDefinedBelow (map meaning_of l.definitions) l.names l.place-index l.services.items
