use Rattle.std.proofs.Common.{◌≡◌, take}
use Rattle.rc_livetext.proofs.known.are_services.Given as goal

-- the names so far are the same
abbrev pub invariant-loop-id : goal.invariant-loop-id
invariant-loop-id l = take l.id l.texts ≡ take l.id l.names
