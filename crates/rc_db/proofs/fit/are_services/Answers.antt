use Rattle.std.proofs.Common.{rules, ◌≡◌, ◌∙◌, ◌≢◌, ap, length, slice_get, Some, refl, sym}
use Rattle.std.proofs.Common.{true≢false, subst, arith}
use Rattle.std.proofs.lemmas.Option.{slice_get_read}
use Rattle.rc_model.specs.declared.Kind.TheVariants.{Bundle}
use Rattle.rc_model.specs.Database.{Service, HasLimits}
use Rattle.rc_db.proofs.Fits.{at_place, one_more, at_each}
use Rattle.rc_db.proofs.fit.are_services.Goals as goal

pub returns-then-eq-clause-services : goal.returns-then-eq-clause-services
returns-then-eq-clause-services c =
    let NoBundle : Service → Type 0 = λ s. s.kind ≢ Bundle in
    let there : slice_get c.args.services.now c.loop-service.service-index
    ≡ Some c.service-item.result =
    slice_get_read c.args.services.now (length c.args.services.now) c.loop-service.service-index
    c.service-item.result refl c.loop-service-test.true c.service-item.is in
    let is : c.service.inside.kind ≡ Bundle = search rules in (
      λ no. absurd (true≢false (sym no)),
      λ all. absurd
          (at_place NoBundle c.args.services.now c.loop-service.service-index c.service-item.result
          all there (sym (ap (λ (s : Service). s.kind) c.service.view_is) ∙ is)),
    )

pub loop-service-preserved : goal.loop-service-preserved
loop-service-preserved c =
    let there : slice_get c.args.services.now c.loop-service.service-index
    ≡ Some c.service-item.result =
    slice_get_read c.args.services.now (length c.args.services.now) c.loop-service.service-index
    c.service-item.result refl c.loop-service-test.true c.service-item.is in
    let other : c.service.inside.kind ≢ Bundle = search rules in
    record {
      services =
          one_more (λ s. s.kind ≢ Bundle) c.args.services.now c.loop-service.service-index
          c.service-item.result there
          (λ is. other (ap (λ (s : Service). s.kind) c.service.view_is ∙ is))
          c.loop-service.invariant.services;
      limits =
          one_more HasLimits c.args.services.now c.loop-service.service-index
          c.service-item.result there
          (subst HasLimits c.service.view_is c.service.invariant) c.loop-service.invariant.limits;
    }

pub returns-clause-services : goal.returns-clause-services
returns-clause-services c = (
  λ _. at_each (λ (s : Service). s.kind ≢ Bundle) c.args.services.now
      c.loop-service.service-index (omega arith) c.loop-service.invariant.services,
  λ _. refl,
)

pub returns-clause-limits : goal.returns-clause-limits
returns-clause-limits c =
    at_each HasLimits c.args.services.now c.loop-service.service-index (omega arith)
    c.loop-service.invariant.limits
