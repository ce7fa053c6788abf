-- What was read of the files of an entry, part by part.
use Rattle.std.specs.Prelude.{◌≡◌, ◌<◌, ◌^◌, ◌⊎◌, ◌↔◌, ℕ, List, All, Contains, IfSome, codes}
use Rattle.std.specs.Prelude.{slice_get, false, map, option_map, string_bytes}
use Rattle.std.specs.Option.{is_some}
use Rattle.rc_model.specs.Names.{IsName}
use Rattle.rc_source.specs.declared.definition.Definition.{Definition}
use Rattle.rc_source.specs.declared.entry.Limits.{Limits}
use Rattle.rc_source.specs.declared.entry.Pipes.{Pipes}
use Rattle.rc_source.specs.declared.entry.Service.{Service}
use Rattle.rc_source.specs.Tree.{Source, file_at, names_next}
use Rattle.rc_source.specs.Kinds.{is_hidden}
use Rattle.rc_source.specs.Meaning.{Meaning, AreMeanings, ListsNames, limit_in, given_in}

-- the meaning that a definition holds
abbrev pub meaning_of : Definition → Meaning
meaning_of d = record {
  name = d.name;
  kind = d.kind;
  limit_up = d.timeout_up;
  limit_down = d.timeout_down;
  essential = d.essential;
  up = option_map string_bytes d.up;
  down = option_map string_bytes d.down;
  producer_for = d.producer_for;
  pipeline_name = d.pipeline_name;
  dependencies = d.dependencies.items;
  consumer_for = d.consumer_for.items;
  contents = d.contents.items;
}

-- the names of meanings, in their order
abbrev pub meant : List Meaning → List (List ℕ)
meant ms = map (λ m. m.name) ms

-- meanings of distinct names, and these names in any order
pub record AreFound (ms : List Meaning) (names : List (List ℕ)) : Type 0 where
  pub meanings : AreMeanings ms
  pub all : (name : List ℕ) → Contains names name ↔ Contains (meant ms) name

-- a line of the file gives the name, or what stands in the folder has it and is not hidden
abbrev pub IsNamedIn : Source → List ℕ → List ℕ → List ℕ → List ℕ → Type 0
IsNamedIn source entry file folder name = Contains (given_in (file_at source entry file)) name
    ⊎ (Contains (names_next source entry folder) name × (is_hidden name ≡ false))

-- what the files of limits say
pub record SayLimits (source : Source) (entry : List ℕ) (limits : Limits) : Type 0 where
  pub up : limits.up ≡ limit_in (file_at source entry (codes "timeout-up"))
  pub down : limits.down ≡ limit_in (file_at source entry (codes "timeout-down"))

-- limits are numbers of 32 bits
pub record AreLimits (limits : Limits) : Type 0 where
  pub up : limits.up < 2 ^ 32
  pub down : limits.down < 2 ^ 32

-- what the files of pipelines say
pub record SayPipes (source : Source) (entry : List ℕ) (pipes : Pipes) : Type 0 where
  pub producer_for : pipes.producer_for
      ≡ slice_get (given_in (file_at source entry (codes "producer-for"))) 0
  pub consumer_for : ListsNames (Contains
      (given_in (file_at source entry (codes "consumer-for")))) pipes.consumer_for.items
  pub pipeline_name : pipes.pipeline_name
      ≡ slice_get (given_in (file_at source entry (codes "pipeline-name"))) 0

-- the names of pipelines are names
pub record ArePipes (pipes : Pipes) : Type 0 where
  pub producer_for : IfSome pipes.producer_for IsName
  pub consumer_for : All IsName pipes.consumer_for.items
  pub pipeline_name : IfSome pipes.pipeline_name IsName

-- what the files of services of both kinds say
pub record SayService (source : Source) (entry : List ℕ) (service : Service) : Type 0 where
  pub limits : SayLimits source entry service.limits
  pub essential : service.essential ≡ is_some (file_at source entry (codes "flag-essential"))
  pub dependencies : ListsNames (IsNamedIn source entry (codes "dependencies")
      (codes "dependencies.d")) service.dependencies.items
  pub pipes : SayPipes source entry service.pipes

-- what some files of services of both kinds can say
pub record IsSaid (service : Service) : Type 0 where
  pub limits : AreLimits service.limits
  pub dependencies : All IsName service.dependencies.items
  pub pipes : ArePipes service.pipes
