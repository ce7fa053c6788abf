-- What a name stands for among definitions, and which service needs which by name.
use Rattle.std.specs.Prelude.{◌≡◌, ◌⊎◌, ℕ, List, Contains}
use Rattle.rc_model.specs.declared.Kind.TheVariants.{Bundle}
use Rattle.rc_source.specs.Meaning.{Meaning}
use Rattle.rc_compile.specs.Along.{LeadsTo}
use Rattle.rc_compile.specs.Pipelines.{IsDefined, IsService, WritesTo, InPipelineOf, NamesPipeline}

-- the name of the bundle of a pipeline
abbrev pub IsPipeline : List Meaning → List ℕ → Type 0
IsPipeline ms name = (m : Meaning) × Contains ms m × NamesPipeline m name

-- the name of a bundle, defined or of a pipeline
abbrev pub IsBundle : List Meaning → List ℕ → Type 0
IsBundle ms name = IsDefined ms (λ m. m.kind ≡ Bundle) name ⊎ IsPipeline ms name

-- a name that stands for something
abbrev pub IsKnown : List Meaning → List ℕ → Type 0
IsKnown ms name = IsService ms name ⊎ IsBundle ms name

-- the contents of the bundle have this name
abbrev pub HasContent : List Meaning → List ℕ → List ℕ → Type 0
HasContent ms name member = IsDefined ms (λ m. Contains m.contents member) name

-- the pipeline of this name has this service
abbrev pub HasInPipeline : List Meaning → List ℕ → List ℕ → Type 0
HasInPipeline ms name member =
    (m : Meaning) × Contains ms m × NamesPipeline m name × InPipelineOf ms m.name member

-- a bundle holds a name: by its contents, or as a pipeline
abbrev pub HoldsName : List Meaning → List ℕ → List ℕ → Type 0
HoldsName ms name member = HasContent ms name member ⊎ HasInPipeline ms name member

-- the services that a name stands for: itself, and those to which a list of names leads
-- from it, each holding the next
abbrev pub StandsFor : List Meaning → List ℕ → List ℕ → Type 0
StandsFor ms name s = IsService ms s × LeadsTo (HoldsName ms) name s

-- a service needs another: a name among its dependencies stands for it, or it writes to it
abbrev pub NeedsNamed : List Meaning → List ℕ → List ℕ → Type 0
NeedsNamed ms s t = IsService ms s × IsService ms t
    × (IsDefined ms (λ m. (name : List ℕ) × Contains m.dependencies name × StandsFor ms name t) s
    ⊎ WritesTo ms s t)
