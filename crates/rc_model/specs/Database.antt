-- Services and bundles, and what words stand for.
use Rattle.std.specs.Prelude.{◌<◌, ◌^◌, ℕ, Bool, List, Option, ◌≡◌, ◌≢◌, ◌≤◌, [], ◌∷◌, length, map}
use Rattle.std.specs.Prelude.{All, Some, None, if◌then◌else◌, true, Contains, slice_get, ◌⊎◌, take}
use Rattle.rc_model.specs.declared.Kind.{Kind}
use Rattle.std.specs.Str.{bytes_eq}
use Rattle.rc_model.specs.Names.{IsName, IsInByteOrder, AreNames, Has}
use Rattle.rc_model.specs.declared.Kind.TheVariants.{Longrun, Bundle}
use Rattle.rc_model.specs.Graph.{Needs, IsAcyclic, AreNeeds}

-- what a database says of one service, beside its name and what it needs: its kind, `Oneshot`
-- or `Longrun` (enums stand in `src/lib.rt`), whether it is essential (some changes leave such a
-- service up), limits in milliseconds, 0 for none, the texts of its scripts, if any, and the
-- service that reads what it writes, if any
pub record Service : Type 0 where
  pub kind : Kind
  pub essential : Bool
  pub limit_up : ℕ
  pub limit_down : ℕ
  pub text_up : Option (List ℕ)
  pub text_down : Option (List ℕ)
  pub producer_for : Option ℕ

-- both limits are numbers of 32 bits
abbrev pub HasLimits : Service → Type 0
HasLimits s = (s.limit_up < 2 ^ 32) × (s.limit_down < 2 ^ 32)

-- bundles, each a name with a set of services
abbrev pub Bundles : Type 0
Bundles = List (List ℕ × List Bool)

-- the names of the bundles
abbrev pub names_of : Bundles → List (List ℕ)
names_of table = map (λ bundle. bundle.0) table

-- the name of a bundle
abbrev pub IsBundle : Bundles → List ℕ → Type 0
IsBundle table name = Contains (names_of table) name

-- the set of a name, if it is the name of a bundle
abbrev pub value_of : Bundles → List ℕ → Option (List Bool)
value_of [] name = None
value_of (bundle ∷ rest) name = if bytes_eq name bundle.0 then Some bundle.1 else value_of rest name

-- at most 4,096 bundles, their names as `IsName` says, in byte order, so that each stands once
pub record IsTable (table : Bundles) : Type 0 where
  pub order : IsInByteOrder (names_of table)
  pub each : All IsName (names_of table)
  pub few : length table ≤ 4096

-- all sets have this bound, which is the length of each
abbrev pub HaveBound : ℕ → Bundles → Type 0
HaveBound bound table = All (λ bundle. length bundle.1 ≡ bound) table

-- the services' names, what is said of each (`Service`), what each needs, and the bundles; a
-- service is its place among the names; `FitTogether` says that the lists are of one length
pub record Database : Type 0 where
  pub names : List (List ℕ)
  pub services : List Service
  pub needs : List (List ℕ)
  pub table : Bundles

-- the service is of this kind
abbrev pub IsKind : Database → ℕ → Kind → Type 0
IsKind d s kind =
    (service : Service) × (slice_get d.services s ≡ Some service) × (service.kind ≡ kind)

-- the service is marked as essential, so that some changes leave it up where it is up
abbrev pub IsEssential : Database → ℕ → Type 0
IsEssential d s =
    (service : Service) × (slice_get d.services s ≡ Some service) × (service.essential ≡ true)

-- what the first service writes, the second reads
abbrev pub Feeds : Database → ℕ → ℕ → Type 0
Feeds d s t =
    (service : Service) × (slice_get d.services s ≡ Some service) × (service.producer_for ≡ Some t)

-- no bundle has the name of a service
abbrev pub AreApart : List (List ℕ) → Bundles → Type 0
AreApart names table = (name : List ℕ) → Contains names name → Contains (names_of table) name → ⊥

-- parts that fit together: one number of services in all of them, services and not
-- bundles, what a service feeds is a longrun that the service needs, names apart
pub record FitTogether (d : Database) : Type 0 where
  pub services : length d.services ≡ length d.names
  pub graph : length d.needs ≡ length d.names
  pub bounds : HaveBound (length d.names) d.table
  pub kinds : All (λ s. s.kind ≢ Bundle) d.services
  pub fed : (s t : ℕ) → Feeds d s t → IsKind d t Longrun × Needs d.needs s t
  pub apart : AreApart d.names d.table

-- a database: names in byte order, needs ascending and of services alone, bundles in byte order,
-- limits of 32 bits, no service reaches itself, and the parts fit together
pub record IsDatabase (d : Database) : Type 0 where
  pub names : AreNames d.names
  pub needs : AreNeeds d.needs
  pub acyclic : IsAcyclic d.needs
  pub table : IsTable d.table
  pub limits : All HasLimits d.services
  pub fit : FitTogether d

-- a name stands for the service of that name, or for
-- each service in the set of the bundle of that name
abbrev pub StandsFor : List (List ℕ) → Bundles → List ℕ → ℕ → Type 0
StandsFor names table name s =
    (slice_get names s ≡ Some name) ⊎ ((set : List Bool) × (value_of table name ≡ Some set)
    × Has set s)

-- the services that words stand for
abbrev pub Selected : List (List ℕ) → Bundles → List (List ℕ) → ℕ → Type 0
Selected names table words s = (word : List ℕ) × Contains words word × StandsFor names table word s

-- the name of a service or of a bundle
abbrev pub IsKnown : List (List ℕ) → Bundles → List ℕ → Type 0
IsKnown names table word = Contains names word ⊎ Contains (names_of table) word

-- at this place stands the first word of which this holds
abbrev pub IsFirst : (List ℕ → Type 0) → List (List ℕ) → ℕ → Type 0
IsFirst P words place =
    (word : List ℕ) × (slice_get words place ≡ Some word) × P word
    × All (λ before. P before → ⊥) (take place words)

-- at this place stands the first word that is the name of nothing
abbrev pub IsUnknownAt : List (List ℕ) → Bundles → List (List ℕ) → ℕ → Type 0
IsUnknownAt names table words place = IsFirst (λ word. IsKnown names table word → ⊥) words place
