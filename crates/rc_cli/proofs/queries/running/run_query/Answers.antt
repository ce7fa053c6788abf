-- The status, the output and the report of a query. An outcome is made first and printed then, so
-- each clause is one fact about an outcome and its printing. `by.ends` joins what both calls
-- promise, and QueryLemmas reads the clauses off that.
use Rattle.rc_cli.proofs.QueryLemmas as by
use Rattle.rc_cli.proofs.queries.running.run_query.Goals as goal

pub returns : goal.returns
returns g c =
    let outcome = c.outcome_of-outcome.result in
    let printed = c.print_outcome-status.ensures in
    let how = by.ends outcome c.outcome_of-outcome.ensures.outcome printed in
    record {
      statuses = by.statuses how;
      done = by.done how;
      untold = by.untold how;
      refused = by.refused how;
      failed = by.failed how;
      read = λ has. by.read_reported outcome _ _ _ _ _ _ _ printed
          (c.outcome_of-outcome.ensures.told has);
      written = by.written how;
      begun = by.begun how;
      unwritten = by.unwritten how;
      first = c.outcome_of-outcome.ensures.first;
      unread = c.outcome_of-outcome.ensures.unread;
      based = by.based how;
      untrue = by.untrue how;
      within = by.within how;
      end = by.end how;
      taken = c.outcome_of-outcome.ensures.taken;
    }
