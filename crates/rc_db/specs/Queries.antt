-- What queries of a database answer: a service by name, its kind, its neighbours, and lists of
-- names.
use Rattle.std.specs.Prelude.{◌≡◌, ◌⊎◌, ℕ, List, Contains, Some, slice_get}
use Rattle.rc_model.specs.declared.Kind.{Kind}
use Rattle.rc_model.specs.declared.Kind.TheVariants.{Oneshot, Longrun, Bundle}
use Rattle.rc_model.specs.Graph.{Needs, UpFrom, DownFrom}
use Rattle.rc_graph.specs.declared.Way.{Way}
use Rattle.rc_graph.specs.declared.Way.TheVariants.{Raise, Lower}
use Rattle.rc_db.specs.declared.which.Which.{Which}
use Rattle.rc_db.specs.declared.which.Which.TheVariants.{All, Services, Oneshots, Longruns, Bundles}
use Rattle.rc_model.specs.Database.{names_of, Service, Database}

-- what stands under a name in a database
abbrev pub IsServiceNamed : Database → List ℕ → Service → Type 0
IsServiceNamed d name service =
    (s : ℕ) × (slice_get d.names s ≡ Some name) × (slice_get d.services s ≡ Some service)

-- the kind of a name
abbrev pub IsKindOf : Database → List ℕ → Kind → Type 0
IsKindOf d name Bundle = Contains (names_of d.table) name
IsKindOf d name kind = (service : Service) × IsServiceNamed d name service × (service.kind ≡ kind)

-- what a service needs, or the other way round what needs it
abbrev pub IsBeside : List (List ℕ) → Way → ℕ → ℕ → Type 0
IsBeside needs Raise s t = Needs needs s t
IsBeside needs Lower s t = Needs needs t s

-- what a member needs, or the other way round what needs a member
abbrev pub IsNextTo : List (List ℕ) → Way → (ℕ → Type 0) → ℕ → Type 0
IsNextTo needs way In t = (s : ℕ) × In s × IsBeside needs way s t

-- the members with all that they reach, or the other way round with all that reach one of them
abbrev pub IsWithAll : List (List ℕ) → Way → (ℕ → Type 0) → ℕ → Type 0
IsWithAll needs Raise In = UpFrom needs In
IsWithAll needs Lower In = DownFrom needs In

-- the names that a list shows
abbrev pub IsShown : Database → Which → List ℕ → Type 0
IsShown d All name = Contains d.names name ⊎ Contains (names_of d.table) name
IsShown d Services name = Contains d.names name
IsShown d Oneshots name = IsKindOf d name Oneshot
IsShown d Longruns name = IsKindOf d name Longrun
IsShown d Bundles name = Contains (names_of d.table) name
