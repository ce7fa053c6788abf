use Rattle.std.proofs.Common.{◌∙◌, refl, sym, true≢false}
use Rattle.std.proofs.lemmas.Option.{slice_get_within}
use Rattle.rc_db.proofs.KindLemmas.{longrun_or}
use Rattle.rc_db.proofs.db.Db.script.Goals as goal

pub service-service-requires : goal.service-service-requires
service-service-requires c =
    slice_get_within c.args.self.now.names c.in_ok-service_named.field-0 c.args.name.now
    c.in_ok-service_named.ensures.service

pub returns-clause-text : goal.returns-clause-text
returns-clause-text c = (
  c.service-service.result.now,
  (c.in_ok-service_named.field-0, c.in_ok-service_named.ensures.service, c.service-service.ensures),
  c.in_ok-script.ensures,
)

pub returns-clause-oneshot : goal.returns-clause-oneshot
returns-clause-oneshot c = (
  c.service-service.result.now,
  (c.in_ok-service_named.field-0, c.in_ok-service_named.ensures.service, c.service-service.ensures),
  c.is_oneshot.ensures.0 c.if-not-is_oneshot.false,
)

pub returns-then-not-is_oneshot-clause-fault : goal.returns-then-not-is_oneshot-clause-fault
returns-then-not-is_oneshot-clause-fault c = (
  refl,
  (
    c.service-service.result.now,
    (
      c.in_ok-service_named.field-0,
      c.in_ok-service_named.ensures.service,
      c.service-service.ensures,
    ),
    longrun_or c.args.self.now c.in_ok-service_named.field-0 c.service-service.result.now
        c.service_named.ensures.database c.service-service.ensures
        (λ oneshot. true≢false (sym (c.is_oneshot.ensures.1 oneshot) ∙ c.if-not-is_oneshot.true)),
  ),
)
