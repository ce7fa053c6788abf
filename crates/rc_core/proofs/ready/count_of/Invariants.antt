use Rattle.std.proofs.Common.{◌≡◌, ◌≤◌, take, Contains, slice_index_or, false}
use Rattle.rc_core.specs.Ready.{IsCount}
use Rattle.rc_core.proofs.ready.count_of.Given as goal

-- those so far are counted
abbrev pub invariant-loop-service : goal.invariant-loop-service
invariant-loop-service l = record {
  counted : IsCount
      (λ t. Contains (take l.service-index l.list) t × (slice_index_or l.set t false ≡ l.inside))
      l.count;
  few : l.count ≤ l.service-index;
}
