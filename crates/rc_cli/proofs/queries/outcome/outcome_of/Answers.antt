use Rattle.rc_dbtext.specs.Base.{bytes_of}
use Rattle.rc_streams.specs.Noting.{HasFailed}
use Rattle.rc_cli.specs.Queries.{query_ask_of}
use Rattle.rc_cli.proofs.OpenedLemmas.{opened_sound}
use Rattle.rc_cli.proofs.QueryLemmas.{came, open_came, open_told}
use Rattle.rc_cli.proofs.queries.outcome.outcome_of.Goals as goal

pub returns-in-Ok-clause-outcome : goal.returns-in-Ok-clause-outcome
returns-in-Ok-clause-outcome g c =
    came (query_ask_of c.args.query.now) (bytes_of c.args.base) _ _
    (HasFailed c.open_for.new.reader) c.answer.result _ _ _ _ c.deref.ensures.value
    (rw c.reads.ensures at c.in-Ok.ensures.opened) c.answer.ensures.answer c.answer.ensures.fault

pub returns-in-Ok-clause-told : goal.returns-in-Ok-clause-told
returns-in-Ok-clause-told g c failed =
    opened_sound c.open_for.result _ _ c.in-Ok.is (c.open_for.ensures.told failed)

pub returns-in-Err-clause-outcome : goal.returns-in-Err-clause-outcome
returns-in-Err-clause-outcome g c =
    open_came (query_ask_of c.args.query.now) (bytes_of c.args.base) _ _
    (HasFailed c.open_for.new.reader) c.in-Err.fault c.from.result
    (rw c.reads.ensures at c.in-Err.ensures.fault) c.from.ensures

pub returns-in-Err-clause-told : goal.returns-in-Err-clause-told
returns-in-Err-clause-told g c failed =
    open_told c.open_for.result c.in-Err.fault c.from.result c.in-Err.is c.from.ensures
    (c.open_for.ensures.told failed)
