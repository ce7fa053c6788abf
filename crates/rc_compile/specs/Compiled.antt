-- The database that definitions make.
use Rattle.std.specs.Prelude.{◌≡◌, ◌↔◌, ℕ, Bool, List, Contains, Some, slice_get, option_map}
use Rattle.rc_model.specs.Names.{Has}
use Rattle.rc_model.specs.Graph.{Needs}
use Rattle.rc_model.specs.Database.{Service, names_of, value_of, Database}
use Rattle.rc_source.specs.Meaning.{Meaning, ListsNames}
use Rattle.rc_compile.specs.Pipelines.{IsService}
use Rattle.rc_compile.specs.Standing.{IsBundle, StandsFor, NeedsNamed}

-- the service is as the files say; the one that it writes to is a place among the names
pub record IsAsDefined (names : List (List ℕ)) (m : Meaning) (service : Service) : Type 0 where
  pub kind : service.kind ≡ m.kind
  pub essential : service.essential ≡ m.essential
  pub limit_up : service.limit_up ≡ m.limit_up
  pub limit_down : service.limit_down ≡ m.limit_down
  pub text_up : service.text_up ≡ m.up
  pub text_down : service.text_down ≡ m.down
  pub producer_for : option_map (slice_get names) service.producer_for
      ≡ option_map (λ name. Some name) m.producer_for

-- the database of definitions: its services are those defined, as they are defined; one needs
-- another where its definition does; and each bundle holds what its name stands for
pub record IsDatabaseOf (ms : List Meaning) (d : Database) : Type 0 where
  pub names : ListsNames (IsService ms) d.names
  pub services : (m : Meaning) (s : ℕ) → Contains ms m → slice_get d.names s ≡ Some m.name →
      (service : Service) × (slice_get d.services s ≡ Some service) × IsAsDefined d.names m service
  pub needs : (a b : List ℕ) (s t : ℕ) → slice_get d.names s ≡ Some a →
      slice_get d.names t ≡ Some b → Needs d.needs s t ↔ NeedsNamed ms a b
  pub bundles : ListsNames (IsBundle ms) (names_of d.table)
  pub sets : (name a : List ℕ) (set : List Bool) (s : ℕ) → value_of d.table name ≡ Some set →
      slice_get d.names s ≡ Some a → Has set s ↔ StandsFor ms name a
