use Rattle.std.proofs.Common.{◌≡◌, [], replicate}
use Rattle.rc_compile.specs.Rows.{rows}
use Rattle.rc_compile.proofs.members.rows.empty_rows.Given as goal

-- as many empty lists as were counted
abbrev pub invariant-loop : goal.invariant-loop
invariant-loop l = rows l.lists.items ≡ replicate l.counter []
