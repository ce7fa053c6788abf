-- Services, longruns and pipelines among definitions, and which name a pipeline has.
use Rattle.std.specs.Prelude.{◌≡◌, ◌≢◌, ℕ, List, [], Contains, Some, None}
use Rattle.rc_model.specs.declared.Kind.TheVariants.{Longrun, Bundle}
use Rattle.rc_source.specs.Meaning.{Meaning}
use Rattle.rc_compile.specs.Along.{LeadsTo}

-- the name has a meaning of which this holds
abbrev pub IsDefined : List Meaning → (Meaning → Type 0) → List ℕ → Type 0
IsDefined ms P name = (m : Meaning) × Contains ms m × (m.name ≡ name) × P m

-- the name of a service
abbrev pub IsService : List Meaning → List ℕ → Type 0
IsService ms name = IsDefined ms (λ m. m.kind ≢ Bundle) name

-- the name of a longrun
abbrev pub IsLongrun : List Meaning → List ℕ → Type 0
IsLongrun ms name = IsDefined ms (λ m. m.kind ≡ Longrun) name

-- the first names the second as the one that it writes to
abbrev pub WritesTo : List Meaning → List ℕ → List ℕ → Type 0
WritesTo ms p c = IsDefined ms (λ m. m.producer_for ≡ Some c) p

-- the first names the second as one that it reads from
abbrev pub ReadsFrom : List Meaning → List ℕ → List ℕ → Type 0
ReadsFrom ms c p = IsDefined ms (λ m. Contains m.consumer_for p) c

-- what the service writes comes to the last one in the end, and from there to no other
abbrev pub IsLastConsumer : List Meaning → List ℕ → List ℕ → Type 0
IsLastConsumer ms s last = LeadsTo (WritesTo ms) s last × ((c : List ℕ) → WritesTo ms last c → ⊥)

-- the longruns that have the same last consumer
abbrev pub InPipelineOf : List Meaning → List ℕ → List ℕ → Type 0
InPipelineOf ms s t =
    IsLongrun ms t × ((last : List ℕ) × IsLastConsumer ms s last × IsLastConsumer ms t last)

-- the service names the bundle of its pipeline: a longrun that reads from
-- some service and writes to none
pub record NamesPipeline (m : Meaning) (name : List ℕ) : Type 0 where
  pub longrun : m.kind ≡ Longrun
  pub reads : m.consumer_for ≢ []
  pub ends : m.producer_for ≡ None
  pub named : m.pipeline_name ≡ Some name
