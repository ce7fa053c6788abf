use Rattle.std.proofs.Common.{ap}
use Rattle.std.proofs.lemmas.Option.{slice_get_within}
use Rattle.rc_model.specs.Database.{Service}
use Rattle.rc_db.proofs.db.Db.flags.Goals as goal

pub service-service-requires : goal.service-service-requires
service-service-requires c =
    slice_get_within c.args.self.now.names c.in_ok-service_named.field-0 c.args.name.now
    c.in_ok-service_named.ensures.service

pub returns-clause-flags : goal.returns-clause-flags
returns-clause-flags c = (
  c.service-service.result.now,
  (c.in_ok-service_named.field-0, c.in_ok-service_named.ensures.service, c.service-service.ensures),
  ap (λ (s : Service). s.essential) c.service.view_is,
)
