use Rattle.std.proofs.Common.{◌∙◌, ap, sym}
use Rattle.std.proofs.lemmas.Option.{slice_get_within}
use Rattle.rc_model.specs.Database.{Service}
use Rattle.rc_db.specs.Service.{limit_of}
use Rattle.rc_db.proofs.db.Db.limit.Goals as goal

pub service-service-requires : goal.service-service-requires
service-service-requires c =
    slice_get_within c.args.self.now.names c.in_ok-service_named.field-0 c.args.name.now
    c.in_ok-service_named.ensures.service

pub returns-in-Raise-clause-limit : goal.returns-in-Raise-clause-limit
returns-in-Raise-clause-limit c = (
  c.service-service.result.now,
  (c.in_ok-service_named.field-0, c.in_ok-service_named.ensures.service, c.service-service.ensures),
  ap (λ (s : Service). s.limit_up) c.service.view_is ∙ ap (limit_of c.service-service.result.now)
      (sym c.in-Raise.is),
)

pub returns-in-Lower-clause-limit : goal.returns-in-Lower-clause-limit
returns-in-Lower-clause-limit c = (
  c.service-service.result.now,
  (c.in_ok-service_named.field-0, c.in_ok-service_named.ensures.service, c.service-service.ensures),
  ap (λ (s : Service). s.limit_down) c.service.view_is ∙ ap (limit_of c.service-service.result.now)
      (sym c.in-Lower.is),
)
