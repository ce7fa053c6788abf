-- The names that a definition gives to services and bundles, and when a table of names is full.
use Rattle.std.specs.Prelude.{◌≡◌, ◌≢◌, ◌≤◌, ◌⊎◌, ℕ, List, length, Contains}
use Rattle.rc_model.specs.declared.Kind.TheVariants.{Bundle}
use Rattle.rc_source.specs.Meaning.{Meaning}
use Rattle.rc_compile.specs.Pipelines.{IsService, NamesPipeline}
use Rattle.rc_compile.specs.Standing.{IsBundle}
use Rattle.rc_compile.specs.declared.tables.Which.{Which}
use Rattle.rc_compile.specs.declared.tables.Which.TheVariants.{Services, Bundles}

-- the entry gives this name to a service, or to a bundle: its own, or that of its pipeline
abbrev pub Gives : Which → Meaning → List ℕ → Type 0
Gives Services m name = (m.kind ≢ Bundle) × (m.name ≡ name)
Gives Bundles m name = ((m.kind ≡ Bundle) × (m.name ≡ name)) ⊎ NamesPipeline m name

-- the name of a service, or of a bundle
abbrev pub IsNameOf : Which → List Meaning → List ℕ → Type 0
IsNameOf Services ms = IsService ms
IsNameOf Bundles ms = IsBundle ms

-- a name of which this holds does not go into a table: it is new, and the table is full
abbrev pub IsFull : List (List ℕ) → (List ℕ → Type 0) → Type 0
IsFull names P = (name : List ℕ) × P name × (Contains names name → ⊥) × (4096 ≤ length names)
