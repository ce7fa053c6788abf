-- Definitions whose pipes and names fit, and the sets of services of their bundles.
use Rattle.std.specs.Prelude.{◌≡◌, ◌↔◌, ℕ, Bool, List, [], Contains, Some, slice_get}
use Rattle.std.specs.Prelude.{slice_index_or}
use Rattle.rc_model.specs.Names.{Has}
use Rattle.rc_model.specs.Graph.{UpFrom}
use Rattle.rc_source.specs.Meaning.{Meaning}
use Rattle.rc_compile.specs.Pipelines.{IsService, IsLongrun, WritesTo, ReadsFrom, NamesPipeline}
use Rattle.rc_compile.specs.Standing.{IsBundle}

-- pipes join longruns alone, and both sides name one another
pub record ArePiped (ms : List Meaning) : Type 0 where
  pub longruns : (s t : List ℕ) → WritesTo ms s t → IsLongrun ms s × IsLongrun ms t
  pub both : (s t : List ℕ) → WritesTo ms s t ↔ ReadsFrom ms t s

-- no service has the name of a bundle
abbrev pub AreApart : List Meaning → Type 0
AreApart ms = (name : List ℕ) → IsService ms name → IsBundle ms name → ⊥

-- at the place of each name of a bundle a set of the places of the services
-- to which the relation takes it
abbrev pub AreSetsOf : (List ℕ → List ℕ → Type 0) → List (List ℕ) → List (List ℕ) →
    List (List Bool) → Type 0
AreSetsOf R bundles services sets = (b s : ℕ) (name a : List ℕ) → slice_get bundles b ≡ Some name →
    slice_get services s ≡ Some a → Has (slice_index_or sets b []) s ↔ R name a

-- the definition names this pipeline, and a walk back from it comes to the service
abbrev pub IsPipedBy : Meaning → List (List ℕ) → List (List ℕ) → List ℕ → ℕ → Type 0
IsPipedBy m services readers name s =
    NamesPipeline m name × UpFrom readers (λ i. slice_get services i ≡ Some m.name) s

-- some definition does
abbrev pub HasPiped : List Meaning → List (List ℕ) → List (List ℕ) → List ℕ → ℕ → Type 0
HasPiped ms services readers name s =
    (m : Meaning) × Contains ms m × IsPipedBy m services readers name s
