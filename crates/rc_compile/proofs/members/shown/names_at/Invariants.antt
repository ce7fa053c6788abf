use Rattle.std.proofs.Common.{◌≡◌, [], map, take, slice_index_or}
use Rattle.rc_compile.proofs.members.shown.names_at.Given as goal

-- the names of those passed
abbrev pub invariant-loop-id : goal.invariant-loop-id
invariant-loop-id l = l.shown.items ≡ map (λ s. slice_index_or l.names s []) (take l.id-index l.ids)
