use Rattle.rc_session.proofs.WaysBack.{ways_back, ways_on}
use Rattle.rc_session.proofs.laws.ways_lead_back_and_on.Goals as goal

pub returns-clause-back : goal.returns-clause-back
returns-clause-back c d line is_db of = ways_back d line is_db of

pub returns-clause-on : goal.returns-clause-on
returns-clause-on c d line is_db of = ways_on d line is_db of
