use Rattle.std.proofs.Common.{◌≡◌, ◌++◌}
use Rattle.std.specs.List.{flat_map, range_with_len}
use Rattle.rc_render.specs.DotText.{service_lines}
use Rattle.rc_render.proofs.dot.add_services.Given as goal

-- the services so far
abbrev pub invariant-loop-id : goal.invariant-loop-id
invariant-loop-id l =
    l.text.items ≡ l.fn.text.items ++ flat_map (service_lines l.db l.live) (range_with_len 0 l.id)
