-- The files of a service directory by its kind, and what each is to hold.
use Rattle.std.specs.Prelude.{◌==◌, ℕ, Bool, List, [], ◌∷◌, ◌++◌, slice_index, Option, Some, None}
use Rattle.std.specs.Prelude.{option_and_then, codes}
use Rattle.std.specs.Str.{bytes_eq}
use Rattle.std.specs.List.{list_any}
use Rattle.rc_model.specs.declared.Kind.{Kind}
use Rattle.rc_model.specs.declared.Kind.TheVariants.{Oneshot, Longrun, Bundle}
use Rattle.rc_source.specs.Tree.{Source, file_at}
use Rattle.rc_source.specs.Texts.{without_newline, kind_of_word}
pub use Rattle.rc_source.specs.declared.definition.Holds.{Holds}
pub use Rattle.rc_source.specs.declared.definition.Holds.TheVariants.{KindWord, UpText, DownText}
pub use Rattle.rc_source.specs.declared.definition.Holds.TheVariants.{Anything, Limit, Flag, Names}
pub use Rattle.rc_source.specs.declared.definition.Holds.TheVariants.{NameEach, OneName}

-- a name that begins with a dot
abbrev pub is_hidden : List ℕ → Bool
is_hidden name = slice_index name 0 == 46

-- the files of limits, in the order of their tests
abbrev pub limit_files : List (List ℕ × Holds)
limit_files = (codes "timeout-up", Limit) ∷ (codes "timeout-down", Limit) ∷ []

-- the files of dependencies, in the order of their tests
abbrev pub dependency_files : List (List ℕ × Holds)
dependency_files = (codes "dependencies", Names) ∷ (codes "dependencies.d", NameEach) ∷ []

-- the files of pipelines, in the order of their tests
abbrev pub pipe_files : List (List ℕ × Holds)
pipe_files = (codes "producer-for", OneName) ∷ (codes "consumer-for", Names)
    ∷ (codes "pipeline-name", OneName) ∷ []

-- the files of services of both kinds, in the order of their tests
abbrev pub files_of_atomic : List (List ℕ × Holds)
files_of_atomic = limit_files ++ ((codes "flag-essential", Flag) ∷ dependency_files) ++ pipe_files

-- the files of a kind, in the order of their tests, beside `type`
abbrev pub files_of_kind : Kind → List (List ℕ × Holds)
files_of_kind Oneshot = (codes "up", UpText) ∷ (codes "down", DownText) ∷ files_of_atomic
files_of_kind Longrun = (codes "run", Anything) ∷ files_of_atomic
files_of_kind Bundle = (codes "contents", Names) ∷ (codes "contents.d", NameEach) ∷ []

-- the kind that the file `type` of a directory gives
abbrev pub kind_of : Source → List ℕ → Option Kind
kind_of source name = option_and_then (λ text. kind_of_word (without_newline text))
    (file_at source name (codes "type"))

-- the files that count for what may have a kind
abbrev pub files_for : Option Kind → List (List ℕ × Holds)
files_for None = []
files_for (Some kind) = files_of_kind kind

-- whether a file counts for a kind
abbrev pub is_file_of : Kind → List ℕ → Bool
is_file_of kind file = list_any (λ counted. bytes_eq file counted.0) (files_of_kind kind)
