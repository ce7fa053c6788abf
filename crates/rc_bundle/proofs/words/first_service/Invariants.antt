use Rattle.std.proofs.Common.{take, map, All, Contains, string_bytes}
use Rattle.rc_bundle.proofs.words.first_service.Given as goal

-- none of the words before this place is a service's
abbrev pub invariant-loop-place : goal.invariant-loop-place
invariant-loop-place l =
    All (λ word. Contains l.db.names word → ⊥) (take l.place (map string_bytes l.words))
