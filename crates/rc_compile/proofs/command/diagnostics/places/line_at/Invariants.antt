use Rattle.std.proofs.Common.{◌≡◌, ◌+◌, ◌==◌, take, count_by}
use Rattle.rc_compile.proofs.command.diagnostics.places.line_at.Given as goal

-- one line more than ends before a byte
abbrev pub invariant-loop-byte : goal.invariant-loop-byte
invariant-loop-byte l = l.number ≡ 1 + count_by (λ byte. byte == 10) (take l.byte-index l.front)
