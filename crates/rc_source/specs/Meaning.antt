-- What the files of a service directory say of the service or bundle of its name.
use Rattle.std.specs.Prelude.{◌≡◌, ◌≢◌, ◌<◌, ◌^◌, ◌↔◌, ◌⊎◌, ℕ, Bool, false, List, [], ◌++◌, All}
use Rattle.std.specs.Prelude.{AllPairs, Contains, Option, Some, None, IsSome, IfSome, IsTrue, codes}
use Rattle.std.specs.Prelude.{slice_get, map, flat_map, if◌then◌else◌}
use Rattle.std.specs.Option.{is_some}
use Rattle.std.specs.List.{AllZip}
use Rattle.std.specs.Str.Parse.{digits_value}
use Rattle.rc_model.specs.declared.Kind.{Kind}
use Rattle.rc_model.specs.declared.Kind.TheVariants.{Oneshot, Bundle}
use Rattle.rc_model.specs.Names.{IsName, IsInByteOrder}
use Rattle.rc_source.specs.Tree.{Source, file_at, names_next}
use Rattle.rc_source.specs.Texts.{IsScriptText, without_newline, names_in}
use Rattle.rc_source.specs.Kinds.{is_hidden, kind_of, is_file_of}
use Rattle.rc_source.specs.Tests.{entries_of}

-- what a service directory says of the service or bundle of its name;
-- limits in milliseconds, 0 for none
pub record Meaning : Type 0 where
  pub name : List ℕ
  pub kind : Kind
  pub limit_up : ℕ
  pub limit_down : ℕ
  pub essential : Bool
  pub up : Option (List ℕ)
  pub down : Option (List ℕ)
  pub producer_for : Option (List ℕ)
  pub pipeline_name : Option (List ℕ)
  pub dependencies : List (List ℕ)
  pub consumer_for : List (List ℕ)
  pub contents : List (List ℕ)

-- the names of which this holds, each once, in byte order
pub record ListsNames (P : List ℕ → Type 0) (names : List (List ℕ)) : Type 0 where
  pub order : IsInByteOrder names
  pub same : (name : List ℕ) → Contains names name ↔ P name

-- the number in a file, 0 where it is missing
abbrev pub limit_in : Option (List ℕ) → ℕ
limit_in None = 0
limit_in (Some text) = digits_value 10 (without_newline text)

-- the names in a file, none where it is missing
abbrev pub given_in : Option (List ℕ) → List (List ℕ)
given_in None = []
given_in (Some text) = names_in text

-- the bytes of a file that is there and counts for the kind
abbrev pub bytes_that_count : Source → List ℕ → Kind → List ℕ → Option (List ℕ)
bytes_that_count source name kind file =
    if is_file_of kind file then file_at source name file else None

-- a line of the file gives the name, or an entry of the folder beside it has it
abbrev pub IsGiven : Source → List ℕ → Kind → List ℕ → List ℕ → Type 0
IsGiven source entry kind file name =
    Contains (given_in (bytes_that_count source entry kind file)) name
    ⊎ (IsTrue (is_file_of kind (file ++ codes ".d"))
    × Contains (names_next source entry (file ++ codes ".d")) name × (is_hidden name ≡ false))

-- what the files of an entry say
pub record Means (source : Source) (entry : List ℕ) (m : Meaning) : Type 0 where
  pub name : m.name ≡ entry
  pub kind : kind_of source entry ≡ Some m.kind
  pub limit_up : m.limit_up ≡ limit_in (bytes_that_count source entry m.kind (codes "timeout-up"))
  pub limit_down : m.limit_down ≡ limit_in
      (bytes_that_count source entry m.kind (codes "timeout-down"))
  pub essential : m.essential ≡ is_some
      (bytes_that_count source entry m.kind (codes "flag-essential"))
  pub up : m.up ≡ bytes_that_count source entry m.kind (codes "up")
  pub down : m.down ≡ bytes_that_count source entry m.kind (codes "down")
  pub producer_for : m.producer_for ≡ slice_get
      (given_in (bytes_that_count source entry m.kind (codes "producer-for"))) 0
  pub pipeline_name : m.pipeline_name ≡ slice_get
      (given_in (bytes_that_count source entry m.kind (codes "pipeline-name"))) 0
  pub dependencies : ListsNames (IsGiven source entry m.kind (codes "dependencies")) m.dependencies
  pub consumer_for : ListsNames (Contains
      (given_in (bytes_that_count source entry m.kind (codes "consumer-for")))) m.consumer_for
  pub contents : ListsNames (IsGiven source entry m.kind (codes "contents")) m.contents

-- the entries of sources in the order of reading, each with its source
abbrev pub all_entries : List Source → List (Source × List ℕ)
all_entries sources = flat_map (λ source. map (λ name. (source, name)) (entries_of source)) sources

-- each entry with what it says, in order
abbrev pub MeanAll : List (Source × List ℕ) → List Meaning → Type 0
MeanAll entries ms = AllZip (λ entry m. Means entry.0 entry.1 m) entries ms

-- what some entry can say: names that are names, and of each kind what its files can hold
pub record IsMeaning (m : Meaning) : Type 0 where
  pub name : IsName m.name
  pub limits : (m.limit_up < 2 ^ 32) × (m.limit_down < 2 ^ 32)
  pub up : IfSome m.up IsScriptText
  pub down : IfSome m.down IsScriptText
  pub fed : IfSome m.producer_for IsName
  pub pipeline : IfSome m.pipeline_name IsName
  pub dependencies : All IsName m.dependencies
  pub consumers : All IsName m.consumer_for
  pub contents : All IsName m.contents
  pub oneshot : m.kind ≡ Oneshot → IsSome m.up
  pub others : m.kind ≢ Oneshot → (m.up ≡ None) × (m.down ≡ None)
  pub atomic : m.kind ≢ Bundle → m.contents ≡ []
  pub bundle : m.kind ≡ Bundle → (m.producer_for ≡ None) × (m.pipeline_name ≡ None)
      × (m.dependencies ≡ []) × (m.consumer_for ≡ []) × (m.essential ≡ false) × (m.limit_up ≡ 0)
      × (m.limit_down ≡ 0)

-- meanings of distinct names
pub record AreMeanings (ms : List Meaning) : Type 0 where
  pub each : All IsMeaning ms
  pub distinct : AllPairs (λ a b. a.name ≢ b.name) ms
