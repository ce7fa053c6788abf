use Rattle.std.proofs.Common.{◌≡◌, map, take, string_bytes}
use Rattle.rc_cli.proofs.sessions.steps.copied.Given as goal

-- the names so far
abbrev pub invariant-loop-name : goal.invariant-loop-name
invariant-loop-name l = map string_bytes l.copy.items
    ≡ take l.name-index (map string_bytes l.names)
