use Rattle.std.proofs.Common.{sym, ap}
use Rattle.rc_db.proofs.Pipelines.{fed_by}
use Rattle.rc_db.proofs.pipeline.consumer_of.Goals as goal

pub returns-clause-some : goal.returns-clause-some
returns-clause-some c =
    fed_by c.args.db.now c.args.s c.service.result.now c.behind-db.inside.producer_for
    c.names-names.ensures.database c.service.ensures
    (ap (λ service. service.producer_for) (sym c.behind-db.view_is))
