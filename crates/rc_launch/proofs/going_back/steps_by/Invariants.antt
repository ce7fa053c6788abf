use Rattle.std.proofs.Common.{◌≡◌, ◌≤◌}
use Rattle.rc_launch.specs.Back.{stops_from}
use Rattle.rc_launch.proofs.going_back.steps_by.Given as goal

-- the stops so far
abbrev pub invariant-loop-count : goal.invariant-loop-count
invariant-loop-count l =
    (l.steps ≡ stops_from l.marks.items l.state l.count) × (l.steps ≤ l.count)
