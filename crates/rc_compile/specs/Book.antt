-- The tables that the compiler's tests look into: services, bundles, pipes and shared names.
use Rattle.std.specs.Prelude.{◌≡◌, ◌<◌, ◌↔◌, ◌⊎◌, ℕ, Bool, List, length, Contains, Some, slice_get}
use Rattle.rc_model.specs.declared.Kind.TheVariants.{Longrun}
use Rattle.rc_model.specs.Names.{Has, Holds}
use Rattle.rc_model.specs.Graph.{Needs}
use Rattle.rc_compile.specs.Rows.{rows}
use Rattle.rc_source.specs.Meaning.{Meaning}
use Rattle.rc_compile.specs.Pipelines.{IsDefined, IsService, WritesTo, NamesPipeline}
use Rattle.rc_compile.specs.Standing.{IsBundle}
use Rattle.rc_compile.specs.declared.book.Book.{Book}
use Rattle.rc_compile.specs.declared.scan.Sought.{Sought}
use Rattle.rc_compile.specs.declared.scan.Sought.TheVariants.{Unknown, Flawed}
use Rattle.rc_compile.specs.declared.tables.Which.TheVariants.{Bundles}
use Rattle.rc_compile.specs.Given.{Gives}
use Rattle.rc_compile.specs.CompileFaults.{Mentions, HasFlaw, HasSomeUnknown}

-- two entries give this name to a bundle
abbrev pub IsShared : List Meaning → List ℕ → Type 0
IsShared ms name = (i j : ℕ) × (a b : Meaning) × (i < j) × (slice_get ms i ≡ Some a)
    × (slice_get ms j ≡ Some b) × Gives Bundles a name × Gives Bundles b name

-- the name at the place is one that the entry gives to a bundle
abbrev pub GivesAt : List (List ℕ) → Meaning → ℕ → Type 0
GivesAt names m s = (name : List ℕ) × (slice_get names s ≡ Some name) × Gives Bundles m name

-- the entry is a longrun, and its name is at the place
abbrev pub IsLongrunAt : List (List ℕ) → Meaning → ℕ → Type 0
IsLongrunAt names m s = (m.kind ≡ Longrun) × (slice_get names s ≡ Some m.name)

-- the set of places has a name
abbrev pub HasNamed : List (List ℕ) → List Bool → List ℕ → Type 0
HasNamed names set name = (s : ℕ) × (slice_get names s ≡ Some name) × Has set s

-- the names stand at places of which the first list has the second
abbrev pub HasPair : List (List ℕ) → List (List ℕ) → List ℕ → List ℕ → Type 0
HasPair names lists a b =
    (s t : ℕ) × (slice_get names s ≡ Some a) × (slice_get names t ≡ Some b) × Needs lists s t

-- it names a neighbour in a pipe, and one of the two is not among the longruns
abbrev pub JoinsOther : List (List ℕ) → List Bool → Meaning → Type 0
JoinsOther names longruns m = (t : List ℕ) × ((m.producer_for ≡ Some t) ⊎ Contains m.consumer_for t)
    × ((m.kind ≡ Longrun) × HasNamed names longruns t → ⊥)

-- at the place is one of these names, which is in a pair with the other
abbrev pub ArePairedAt : List (List ℕ) → List (List ℕ) → List (List ℕ) → List ℕ → ℕ → Type 0
ArePairedAt names lists from to s = (name : List ℕ) × Contains from name
    × (slice_get names s ≡ Some name) × HasPair names lists name to

-- at the place is a name that the entry reads from and that writes to it
abbrev pub IsMatchedAt : List (List ℕ) → List (List ℕ) → Meaning → ℕ → Type 0
IsMatchedAt names feeds m s = ArePairedAt names feeds m.consumer_for m.name s

-- it writes to one that does not read from it, or reads from one that does not write to it
abbrev pub IsUnmatched : List (List ℕ) → List (List ℕ) → List Bool → Meaning → Type 0
IsUnmatched names feeds matched m = (t : List ℕ)
    × (((m.producer_for ≡ Some t) × (HasNamed names matched m.name → ⊥))
    ⊎ (Contains m.consumer_for t × (HasPair names feeds t m.name → ⊥)))

-- its pipeline has the name of a service, or one that is shared
abbrev pub IsTaken : List (List ℕ) → List (List ℕ) → List Bool → Meaning → Type 0
IsTaken services bundles shared m =
    (name : List ℕ) × NamesPipeline m name × (Contains services name ⊎ HasNamed bundles shared name)

-- the tables are those of the meanings
pub record IsBook (ms : List Meaning) (book : Book) : Type 0 where
  pub service : (name : List ℕ) → Contains book.services name ↔ IsService ms name
  pub bundle : (name : List ℕ) → Contains book.bundles name ↔ IsBundle ms name
  pub marked : length book.shared ≡ length book.bundles
  pub twice : (name : List ℕ) → HasNamed book.bundles book.shared name ↔ IsShared ms name
  pub bound : length book.longruns ≡ length book.services
  pub longrun : Holds book.longruns (λ s.
      (m : Meaning) × Contains ms m × IsLongrunAt book.services m s)
  pub fed : length book.feeds.items ≡ length book.services
  pub joined : length book.matched ≡ length book.services
  pub writes : (a b : List ℕ) → HasPair book.services (rows book.feeds.items) a b
      ↔ (Contains book.services a × Contains book.services b × WritesTo ms a b)
  pub matched : Holds book.matched (λ s.
      (m : Meaning) × Contains ms m × IsMatchedAt book.services (rows book.feeds.items) m s)

-- by the tables, the entry has a name that stands for nothing
abbrev pub ShowsUnknown : Book → Meaning → Type 0
ShowsUnknown book m = (name : List ℕ) × Mentions m name
    × (Contains book.services name ⊎ Contains book.bundles name → ⊥)

-- the entry has what is sought
abbrev pub HasSought : List Meaning → Sought → List ℕ → Type 0
HasSought ms Unknown s = HasSomeUnknown ms s
HasSought ms (Flawed flaw) s = HasFlaw ms flaw s

-- the name is that of an entry, which has what is sought
abbrev pub IsSought : List Meaning → Sought → List ℕ → Type 0
IsSought ms sought s = IsDefined ms (λ m. HasSought ms sought m.name) s
