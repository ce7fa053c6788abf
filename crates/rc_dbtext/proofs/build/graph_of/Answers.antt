use Rattle.std.proofs.Common.{Err, ap}
use Rattle.rc_dbtext.proofs.build.graph_of.Goals as goal

pub returns-in-Err-Cycle : goal.returns-in-Err-Cycle
returns-in-Err-Cycle c = (
  c.in-Err-Cycle.field-0-0,
  c.in-Err-Cycle.ensures.cycle c.in-Err-Cycle.field-0-0 (ap Err c.in-Err-Cycle.field-0-is),
)
