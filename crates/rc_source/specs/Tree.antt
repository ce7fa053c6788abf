-- What a tree of source files holds: its directories, its files, and what a look into it lists.
use Rattle.std.specs.Prelude.{◌≡◌, ◌≢◌, ◌==◌, ◌↔◌, ℕ, List, [], ◌∷◌, ◌++◌, map, drop, length}
use Rattle.std.specs.Prelude.{Contains, Option, Some, None, nat_eq, if◌then◌else◌}
use Rattle.std.specs.Str.{bytes_eq}
use Rattle.std.specs.List.{starts_with, before_first, filter_map}
use Rattle.rc_model.specs.Names.{IsInByteOrder}

-- the value that stands beside a name
abbrev pub value_at : {A : Type 0} → List (List ℕ × A) → List ℕ → Option A
value_at [] name = None
value_at (pair ∷ rest) name = if bytes_eq name pair.0 then Some pair.1 else value_at rest name

-- the names of pairs
abbrev pub names_of : {A : Type 0} → List (List ℕ × A) → List (List ℕ)
names_of pairs = map (λ pair. pair.0) pairs

-- beside the name stands this value now, and beside each other name what stood there
pub record IsPutAt {A : Type 0} (old : List (List ℕ × A)) (name : List ℕ) (value : A)
    (new : List (List ℕ × A)) : Type 0 where
  pub here : value_at new name ≡ Some value
  pub others : (other : List ℕ) → other ≢ name → value_at new other ≡ value_at old other

-- what a tree holds: the names of its service directories, and the files in
-- them, each a path with its bytes
pub record Source : Type 0 where
  pub entries : List (List ℕ)
  pub files : List (List ℕ × List ℕ)

-- names and paths in byte order, so each stands once
pub record IsSource (source : Source) : Type 0 where
  pub entries : IsInByteOrder source.entries
  pub files : IsInByteOrder (names_of source.files)

-- the path of what has this name in a directory
abbrev pub path_of : List ℕ → List ℕ → List ℕ
path_of directory name = directory ++ 47 ∷ name

-- the bytes of a file of a service directory
abbrev pub file_at : Source → List ℕ → List ℕ → Option (List ℕ)
file_at source service file = value_at source.files (path_of service file)

-- the name that stands next in a path after this beginning
abbrev pub next_name : List ℕ → List ℕ → Option (List ℕ)
next_name beginning path =
    if starts_with nat_eq path beginning
    then Some (before_first (λ byte. byte == 47) (drop (length beginning) path)) else None

-- the names that the paths through a folder of a service directory have next
abbrev pub names_next : Source → List ℕ → List ℕ → List (List ℕ)
names_next source service folder =
    filter_map (next_name (path_of (path_of service folder) [])) (names_of source.files)

-- the names in a folder, in any order; none where no path leads through it
abbrev pub IsListing : Source → List ℕ → List ℕ → Option (List (List ℕ)) → Type 0
IsListing source service folder None = names_next source service folder ≡ []
IsListing source service folder (Some names) = (names ≢ [])
    × ((name : List ℕ) → Contains names name ↔ Contains (names_next source service folder) name)

-- the names of the service directories, in any order
abbrev pub AreEntries : Source → List (List ℕ) → Type 0
AreEntries source names = (name : List ℕ) → Contains names name ↔ Contains source.entries name
