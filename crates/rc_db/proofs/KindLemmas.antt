-- What the kinds of a database's services are.
use Rattle.std.proofs.Common.{◌≡◌, ◌≢◌, ℕ, List, Some, slice_get, refl, subst}
use Rattle.std.proofs.lemmas.Option.{slice_get_within, get_or_from_slice_get}
use Rattle.rc_model.specs.declared.Kind.{Kind}
use Rattle.rc_model.specs.declared.Kind.TheVariants.{Oneshot, Longrun, Bundle}
use Rattle.rc_model.specs.Database.{Service, Database, IsDatabase}
use Rattle.rc_db.specs.Queries.{IsServiceNamed, IsKindOf}

-- a service is no bundle
pub no_bundle : (d : Database) (s : ℕ) (service : Service) → IsDatabase d
    → slice_get d.services s ≡ Some service → service.kind ≢ Bundle
no_bundle d s service held there =
    let P : Service → Type 0 = λ x. x.kind ≢ Bundle in
    subst P (get_or_from_slice_get d.services s service service there)
    (held.fit.kinds s service (slice_get_within d.services s service there))

-- what is no oneshot is a longrun
pub longrun_or : (d : Database) (s : ℕ) (service : Service) → IsDatabase d
    → slice_get d.services s ≡ Some service → service.kind ≢ Oneshot → service.kind ≡ Longrun
longrun_or d s service held there other = by service.kind refl
  where
    by : (k : Kind) → service.kind ≡ k → k ≡ Longrun
    by Oneshot e = absurd (other e)
    by Longrun e = refl
    by Bundle e = absurd (no_bundle d s service held there e)

-- a service's kind is the kind of its name
pub kind_named : (d : Database) (name : List ℕ) (service : Service) (kind : Kind) → IsDatabase d
    → IsServiceNamed d name service → service.kind ≡ kind → IsKindOf d name kind
kind_named d name service Oneshot held named is = (service, named, is)
kind_named d name service Longrun held named is = (service, named, is)
kind_named d name service Bundle held named is =
    absurd (no_bundle d named.0 service held named.2 is)
