use Rattle.std.proofs.Common.{subst}
use Rattle.rc_model.specs.Database.{Bundles}
use Rattle.rc_select.specs.Ask.{ask_of}
use Rattle.rc_model.specs.Plan.{IsPlanFault}
use Rattle.rc_cli.proofs.queries.plan.planned.Goals as goal

pub returns-in-Err-clause-fault : goal.returns-in-Err-clause-fault
returns-in-Err-clause-fault c = (
  c.in-Err.fault,
  subst (λ (table : Bundles). IsPlanFault c.args.db.now.names table (ask_of c.args.request.now)
      c.in-Err.fault) c.table.ensures.table c.in-Err.ensures.fault,
  c.fault_of.ensures,
)
