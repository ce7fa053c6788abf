use Rattle.std.proofs.Common.{arith}
use Rattle.std.proofs.lemmas.List.Sums.{count_by_more_yes, count_by_more_no, count_by-le-length}
use Rattle.std.proofs.lemmas.Grind.{common_steps}
use Rattle.rc_compile.proofs.command.diagnostics.places.line_at.Goals as goal

pub overflow_add-number : goal.overflow_add-number
overflow_add-number c = grind (arith, common_steps, count_by-le-length, c.loop-byte.invariant)

pub loop-byte-preserved : goal.loop-byte-preserved
loop-byte-preserved c =
    grind (arith, common_steps, count_by_more_yes, count_by_more_no, c.loop-byte.invariant)
