-- For each name, the place of its definition, and the service that this makes.
use Rattle.std.specs.Prelude.{◌≡◌, ℕ, List, length, slice_index, slice_get, Some, Contains}
use Rattle.rc_model.specs.Database.{Service}
use Rattle.rc_source.specs.Meaning.{Meaning}
use Rattle.rc_compile.specs.Compiled.{IsAsDefined}

-- beside each name stands the place of the meaning of that name
pub record ArePlacesOf (ms : List Meaning) (names : List (List ℕ)) (places : List ℕ) : Type 0 where
  pub long : length places ≡ length names
  pub defined : (s : ℕ) (name : List ℕ) → slice_get names s ≡ Some name →
      (m : Meaning) × (slice_get ms (slice_index places s) ≡ Some m) × (m.name ≡ name)

-- the services are those of the names, each as it is defined
pub record AreAsDefined (ms : List Meaning) (names : List (List ℕ))
    (services : List Service) : Type 0 where
  pub long : length services ≡ length names
  pub each : (s : ℕ) (name : List ℕ) → slice_get names s ≡ Some name →
      (m : Meaning) × (service : Service) × Contains ms m × (m.name ≡ name)
      × (slice_get services s ≡ Some service) × IsAsDefined names m service
