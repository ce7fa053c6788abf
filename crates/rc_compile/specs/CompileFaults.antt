-- What definitions are refused for: the flaws, and their order.
use Rattle.std.specs.Prelude.{◌≡◌, ◌≢◌, ◌<◌, ◌⊎◌, ℕ, List, [], ◌∷◌, ◌++◌, length, map, Contains}
use Rattle.std.specs.Prelude.{Some, All, AllPairs}
use Rattle.rc_source.specs.Meaning.{Meaning}
use Rattle.rc_compile.specs.declared.CompileFault.{CompileFault}
use Rattle.rc_compile.specs.declared.CompileFault.TheVariants as fault
use Rattle.rc_compile.specs.declared.flaws.EntryFlaw.{EntryFlaw}
use Rattle.rc_compile.specs.declared.flaws.EntryFlaw.TheVariants.{PipelineType, PipelineMismatch}
use Rattle.rc_compile.specs.declared.flaws.EntryFlaw.TheVariants.{PipelineName}
use Rattle.rc_compile.specs.Along.{IsShownCycle, IsLeast}
use Rattle.rc_compile.specs.Pipelines.{IsDefined, IsService, IsLongrun, WritesTo, ReadsFrom}
use Rattle.rc_compile.specs.Pipelines.{NamesPipeline}
use Rattle.rc_compile.specs.Standing.{IsBundle, IsKnown, HasContent, NeedsNamed}

-- more than 4,096 names of which this holds
abbrev pub AreTooMany : (List ℕ → Type 0) → Type 0
AreTooMany P =
    (names : List (List ℕ)) × AllPairs (λ a b. a ≢ b) names × All P names × (4096 < length names)

-- the services on both sides of a pipe, as the one that has the file and the one that it names
abbrev pub NamesNeighbour : List Meaning → List ℕ → List ℕ → Type 0
NamesNeighbour ms s t = WritesTo ms s t ⊎ ReadsFrom ms s t

-- the entry names a neighbour in a pipe, and one of the two is no longrun
abbrev pub HasWrongType : List Meaning → List ℕ → Type 0
HasWrongType ms s = (t : List ℕ) × NamesNeighbour ms s t × (IsLongrun ms s × IsLongrun ms t → ⊥)

-- the entry names a neighbour in a pipe that does not name it from the other side
abbrev pub HasNoMatch : List Meaning → List ℕ → Type 0
HasNoMatch ms s = (t : List ℕ) × ((WritesTo ms s t × (ReadsFrom ms t s → ⊥))
    ⊎ (ReadsFrom ms s t × (WritesTo ms t s → ⊥)))

-- the pipeline that the service names has the name of a service, of a bundle or of another pipeline
abbrev pub HasTakenName : List Meaning → List ℕ → Type 0
HasTakenName ms s = (name : List ℕ) × IsDefined ms (λ m. NamesPipeline m name) s
    × (IsDefined ms (λ m. Unit {0}) name
    ⊎ ((other : List ℕ) × (other ≢ s) × IsDefined ms (λ m. NamesPipeline m name) other))

-- a definition has this name in one of its lists, or as the one that it writes to
abbrev pub Mentions : Meaning → List ℕ → Type 0
Mentions m name = Contains m.dependencies name ⊎ Contains m.contents name
    ⊎ Contains m.consumer_for name ⊎ (m.producer_for ≡ Some name)

-- the entry has a name that stands for nothing
abbrev pub HasUnknown : List Meaning → List ℕ → List ℕ → Type 0
HasUnknown ms s name = IsDefined ms (λ m. Mentions m name) s × (IsKnown ms name → ⊥)

-- the entry has some name that stands for nothing
abbrev pub HasSomeUnknown : List Meaning → List ℕ → Type 0
HasSomeUnknown ms s = (name : List ℕ) × HasUnknown ms s name

-- what is wrong with the entry, by the flaw
abbrev pub HasFlaw : List Meaning → EntryFlaw → List ℕ → Type 0
HasFlaw ms PipelineType s = HasWrongType ms s
HasFlaw ms PipelineMismatch s = HasNoMatch ms s
HasFlaw ms PipelineName s = HasTakenName ms s

-- the flaws of entries in the order of their tests
abbrev pub entry_flaws : List EntryFlaw
entry_flaws = PipelineType ∷ PipelineMismatch ∷ PipelineName ∷ []

-- the fault that tells the flaw of an entry
abbrev pub entry_fault : EntryFlaw → List ℕ → CompileFault
entry_fault PipelineType s = fault.PipelineType s
entry_fault PipelineMismatch s = fault.PipelineMismatch s
entry_fault PipelineName s = fault.PipelineName s

-- the name is that of an entry, which has the flaw
abbrev pub HasEntryFlaw : List Meaning → EntryFlaw → List ℕ → Type 0
HasEntryFlaw ms flaw s = IsDefined ms (λ m. HasFlaw ms flaw m.name) s

-- what definitions are tested for, each entry of them or all together
pub data Flaw : Type 0 where
  TooMany : Flaw
  Unknown : Flaw
  BundleCycle : Flaw
  OfEntry : EntryFlaw → Flaw
  Cycle : Flaw

-- the flaws in the order of their tests
abbrev pub flaws : List Flaw
flaws = TooMany ∷ Unknown ∷ BundleCycle ∷ (map OfEntry entry_flaws ++ Cycle ∷ [])

-- definitions have a flaw
abbrev pub HaveFlaw : List Meaning → Flaw → Type 0
HaveFlaw ms TooMany = AreTooMany (IsService ms) ⊎ AreTooMany (IsBundle ms)
HaveFlaw ms Unknown = (s : List ℕ) × HasSomeUnknown ms s
HaveFlaw ms BundleCycle = (names : List (List ℕ)) × IsShownCycle (HasContent ms) names
HaveFlaw ms (OfEntry flaw) = (s : List ℕ) × HasEntryFlaw ms flaw s
HaveFlaw ms Cycle = (names : List (List ℕ)) × IsShownCycle (NeedsNamed ms) names

-- definitions have no flaw
abbrev pub HaveNoFlaw : List Meaning → Type 0
HaveNoFlaw ms = (flaw : Flaw) → HaveFlaw ms flaw → ⊥

-- of these flaws there is none that stands before this one
abbrev pub NoneBefore : (Flaw → Type 0) → Flaw → List Flaw → Type 0
NoneBefore Is flaw [] = Unit {0}
NoneBefore Is flaw (first ∷ rest) = (first ≡ flaw) ⊎ ((Is first → ⊥) × NoneBefore Is flaw rest)

-- definitions have none of the flaws that are tested before this one
unfoldable pub AreFreeBefore : List Meaning → Flaw → Type 0
AreFreeBefore ms flaw = NoneBefore (HaveFlaw ms) flaw flaws

-- the flaw of entries is the first that definitions have, and this is the least entry that has it
abbrev pub IsFirstIn : List Meaning → EntryFlaw → List ℕ → Type 0
IsFirstIn ms flaw s = AreFreeBefore ms (OfEntry flaw) × IsLeast (HasEntryFlaw ms flaw) s

-- when compiling is refused: by the first flaw in the order, told of the
-- least entry, and of its least name
unfoldable pub IsCompileFault : List Meaning → CompileFault → Type 0
IsCompileFault ms fault.TooMany = AreFreeBefore ms TooMany × HaveFlaw ms TooMany
IsCompileFault ms (fault.UnknownIn s name) =
    AreFreeBefore ms Unknown × IsLeast (HasSomeUnknown ms) s × IsLeast (HasUnknown ms s) name
IsCompileFault ms (fault.BundleCycle names) =
    AreFreeBefore ms BundleCycle × IsShownCycle (HasContent ms) names.items
IsCompileFault ms (fault.PipelineType s) = IsFirstIn ms PipelineType s
IsCompileFault ms (fault.PipelineMismatch s) = IsFirstIn ms PipelineMismatch s
IsCompileFault ms (fault.PipelineName s) = IsFirstIn ms PipelineName s
IsCompileFault ms (fault.Cycle names) =
    AreFreeBefore ms Cycle × IsShownCycle (NeedsNamed ms) names.items
IsCompileFault ms fault.Memory = Unit {0}
