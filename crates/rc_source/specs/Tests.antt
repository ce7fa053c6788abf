-- All tests of sources in the order in which they are made, and the flaw at which reading stops.
use Rattle.std.specs.Prelude.{◌≡◌, ◌⊎◌, not, ℕ, List, [], ◌∷◌, ◌++◌, map, filter, All, Contains}
use Rattle.std.specs.Prelude.{codes, string_bytes, slice_get, Some}
use Rattle.rc_model.specs.Names.{IsName}
use Rattle.rc_source.specs.declared.fault.Flaw.{Flaw}
use Rattle.rc_source.specs.declared.fault.Flaw.TheVariants.{Io, NotText, TooLong, BadName, Twice}
use Rattle.rc_source.specs.declared.fault.Flaw.TheVariants.{NoType, BadType, NoUp, NoRun}
use Rattle.rc_source.specs.declared.fault.Flaw.TheVariants.{BadTimeout, Memory}
use Rattle.rc_source.specs.declared.fault.SourceFault.{SourceFault}
use Rattle.rc_source.specs.declared.fault.SourceFault.TheVariants as fault
use Rattle.rc_source.specs.Tree.{Source}
use Rattle.rc_source.specs.TreeFaults.{HasFailed}
use Rattle.rc_source.specs.Kinds.{Holds, KindWord, files_for, kind_of, is_hidden}
use Rattle.rc_source.specs.Stops.{StopsFirst}
use Rattle.rc_source.specs.Files.{IsFileFlaw}

-- the names of a source's entries in the order of reading, hidden ones left out
abbrev pub entries_of : Source → List (List ℕ)
entries_of source = filter (λ name. not (is_hidden name)) source.entries

-- what is tested: that a source is listed, that an entry has a name, that the name is new, and
-- a file with what it is to hold
pub data Check : Type 0 where
  Listed : Check
  Named : Check
  New : Check
  File : (file : List ℕ × Holds) → Check

-- a test of an entry, after the names that came before it; of a whole
-- source where the name is empty
pub record Test : Type 0 where
  pub before : List (List ℕ)
  pub source : Source
  pub name : List ℕ
  pub check : Check

-- the files of an entry in the order of their tests: `type`, and the files of its kind
abbrev pub files_of_entry : Source → List ℕ → List (List ℕ × Holds)
files_of_entry source name = (codes "type", KindWord) ∷ files_for (kind_of source name)

-- the tests of an entry in their order: its name, that it is new, and its files
abbrev pub tests_of_entry : List (List ℕ) → Source → List ℕ → List Test
tests_of_entry before source name =
    map (λ check. record { before = before; source = source; name = name; check = check })
    (Named ∷ New ∷ map File (files_of_entry source name))

-- the tests of entries, one after the other
abbrev pub tests_of_entries : List (List ℕ) → Source → List (List ℕ) → List Test
tests_of_entries before source [] = []
tests_of_entries before source (name ∷ rest) =
    tests_of_entry before source name ++ tests_of_entries (before ++ name ∷ []) source rest

-- the tests of a source: that it is listed, and then those of its entries
abbrev pub tests_of_source : List (List ℕ) → Source → List Test
tests_of_source before source = (record {
  before = before;
  source = source;
  name = [];
  check = Listed;
}) ∷ tests_of_entries before source (entries_of source)

-- all tests of sources in their order
abbrev pub all_tests : List (List ℕ) → List Source → List Test
all_tests before [] = []
all_tests before (source ∷ rest) =
    tests_of_source before source ++ all_tests (before ++ entries_of source) rest

-- the flaw of a check
abbrev pub IsCheckFlaw : Test → Check → Flaw → Type 0
IsCheckFlaw test Listed flaw = ⊥
IsCheckFlaw test Named flaw = (flaw ≡ BadName) × (IsName test.name → ⊥)
IsCheckFlaw test New flaw = (flaw ≡ Twice) × Contains test.before test.name
IsCheckFlaw test (File file) flaw = IsFileFlaw test.source test.name file flaw

-- the flaw of what is no name, or a name that came before
abbrev pub IsNoNewName : List (List ℕ) → List ℕ → Flaw → Type 0
IsNoNewName before name flaw =
    ((flaw ≡ BadName) × (IsName name → ⊥)) ⊎ ((flaw ≡ Twice) × IsName name × Contains before name)

-- the device is asked, unlike for a name
abbrev pub AsksDevice : Check → Type 0
AsksDevice Named = ⊥
AsksDevice New = ⊥
AsksDevice check = Unit {0}

-- no flaw fits the test
abbrev pub Passes : Test → Type 0
Passes test = (flaw : Flaw) → IsCheckFlaw test test.check flaw → ⊥

-- reading stops at the test: it has the flaw, or the device failed there
abbrev pub StopsAt : Test → Flaw → Type 0
StopsAt test flaw = IsCheckFlaw test test.check flaw ⊎ (AsksDevice test.check × (flaw ≡ Io))

-- the flaw that a fault tells
abbrev pub flaw_of : SourceFault → Flaw
flaw_of (fault.Io name) = Io
flaw_of (fault.NotText name) = NotText
flaw_of (fault.TooLong name) = TooLong
flaw_of (fault.BadName name) = BadName
flaw_of (fault.Twice name) = Twice
flaw_of (fault.NoType name) = NoType
flaw_of (fault.BadType name) = BadType
flaw_of (fault.NoUp name) = NoUp
flaw_of (fault.NoRun name) = NoRun
flaw_of (fault.BadTimeout name) = BadTimeout
flaw_of fault.Memory = Memory

-- the name that a fault carries
abbrev pub name_carried : SourceFault → List ℕ
name_carried (fault.Io name) = string_bytes name
name_carried (fault.NotText name) = string_bytes name
name_carried (fault.TooLong name) = string_bytes name
name_carried (fault.BadName name) = string_bytes name
name_carried (fault.Twice name) = string_bytes name
name_carried (fault.NoType name) = string_bytes name
name_carried (fault.BadType name) = string_bytes name
name_carried (fault.NoUp name) = string_bytes name
name_carried (fault.NoRun name) = string_bytes name
name_carried (fault.BadTimeout name) = string_bytes name
name_carried fault.Memory = []

-- all tests pass
abbrev pub AllPass : List Test → Type 0
AllPass tests = All Passes tests

-- reading stops at the first test that does not pass, by the flaw, and tells the name of its entry
abbrev pub StopsInTests : List Test → Flaw → List ℕ → Type 0
StopsInTests tests flaw name =
    StopsFirst Passes (λ test. StopsAt test flaw × (name ≡ test.name)) tests

-- some device failed
abbrev pub SomeFailed : List ℕ → List ℕ → Type 0
SomeFailed before after = (tree m n : ℕ) × (slice_get before tree ≡ Some m)
    × (slice_get after tree ≡ Some n) × HasFailed m n
