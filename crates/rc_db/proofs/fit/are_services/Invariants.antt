use Rattle.std.proofs.Common.{◌≡◌, ◌≢◌, ℕ, ◌<◌, slice_get, Some}
use Rattle.rc_model.specs.declared.Kind.TheVariants.{Bundle}
use Rattle.rc_model.specs.Database.{Service, HasLimits}
use Rattle.rc_db.proofs.fit.are_services.Given as goal

-- those passed are no bundles
abbrev pub invariant-loop-service : goal.invariant-loop-service
invariant-loop-service l = record {
  services : (k : ℕ) (s : Service) → k < l.service-index → slice_get l.services k ≡ Some s
      → s.kind ≢ Bundle;
  limits : (k : ℕ) (s : Service) → k < l.service-index → slice_get l.services k ≡ Some s
      → HasLimits s;
}
