-- The tests of one file: what is wrong with it, and where reading stops.
use Rattle.std.specs.Prelude.{◌≡◌, ◌<◌, ◌⊎◌, ℕ, List, false, length, All, Contains, Option, Some}
use Rattle.std.specs.Prelude.{None}
use Rattle.rc_model.specs.Names.{IsName}
use Rattle.rc_source.specs.declared.fault.Flaw.{Flaw}
use Rattle.rc_source.specs.declared.fault.Flaw.TheVariants.{Io, NotText, TooLong, BadName, NoType}
use Rattle.rc_source.specs.declared.fault.Flaw.TheVariants.{BadType, NoUp, NoRun, BadTimeout}
use Rattle.rc_source.specs.Tree.{Source, file_at, names_next}
use Rattle.rc_source.specs.TreeFaults.{IsTooLong}
use Rattle.rc_source.specs.Texts.{IsText, IsLimit, without_newline, kind_of_word, names_in}
use Rattle.rc_source.specs.Stops.{StopsFirst}
use Rattle.rc_source.specs.Kinds.{Holds, KindWord, UpText, Anything, Limit, Flag, Names, NameEach}
use Rattle.rc_source.specs.Kinds.{OneName, is_hidden}

-- the flaw of a file that is missing and may not be
abbrev pub missing_flaw : Holds → Option Flaw
missing_flaw KindWord = Some NoType
missing_flaw UpText = Some NoUp
missing_flaw Anything = Some NoRun
missing_flaw holds = None

-- the flaw of a text that is not what the file is to hold
abbrev pub wrong_flaw : Holds → Flaw
wrong_flaw KindWord = BadType
wrong_flaw Limit = BadTimeout
wrong_flaw holds = BadName

-- a text is not what the file is to hold
abbrev pub IsWrong : Holds → List ℕ → Type 0
IsWrong KindWord text = kind_of_word (without_newline text) ≡ None
IsWrong Limit text = IsLimit (without_newline text) → ⊥
IsWrong Names text = All IsName (names_in text) → ⊥
IsWrong OneName text = (1 < length (names_in text)) ⊎ (All IsName (names_in text) → ⊥)
IsWrong holds text = ⊥

-- bytes that are not looked into: too many, or no text
abbrev pub IsNoText : List ℕ → Flaw → Type 0
IsNoText bytes flaw = ((flaw ≡ TooLong) × IsTooLong bytes)
    ⊎ ((flaw ≡ NotText) × (IsTooLong bytes → ⊥) × (IsText bytes → ⊥))

-- the first flaw of a file that is there and is read: it is too long, no
-- text, or not what it is to hold
abbrev pub IsBadFile : Holds → List ℕ → Flaw → Type 0
IsBadFile holds bytes flaw = IsNoText bytes flaw
    ⊎ ((flaw ≡ wrong_flaw holds) × (IsTooLong bytes → ⊥) × IsText bytes × IsWrong holds bytes)

-- the flaw of a file that is read, if it is there
abbrev pub IsReadFlaw : Holds → Option (List ℕ) → Flaw → Type 0
IsReadFlaw holds None flaw = missing_flaw holds ≡ Some flaw
IsReadFlaw holds (Some bytes) flaw = IsBadFile holds bytes flaw

-- the flaw of a file of a service directory: one that counts by its presence has none but that it
-- is missing, and in a folder of names each entry's name is to be a name
abbrev pub IsFileFlaw : Source → List ℕ → List ℕ × Holds → Flaw → Type 0
IsFileFlaw source name (file, Anything) flaw = (file_at source name file ≡ None) × (flaw ≡ NoRun)
IsFileFlaw source name (file, Flag) flaw = ⊥
IsFileFlaw source name (folder, NameEach) flaw =
    (flaw ≡ BadName) × ((each : List ℕ) × Contains (names_next source name folder) each
    × (is_hidden each ≡ false) × (IsName each → ⊥))
IsFileFlaw source name (file, holds) flaw = IsReadFlaw holds (file_at source name file) flaw

-- no flaw fits the file
abbrev pub FilePasses : Source → List ℕ → List ℕ × Holds → Type 0
FilePasses source name file = (flaw : Flaw) → IsFileFlaw source name file flaw → ⊥

-- reading stops at the file: it has the flaw, or the device failed there
abbrev pub StopsAtFile : Source → List ℕ → List ℕ × Holds → Flaw → Type 0
StopsAtFile source name file flaw = IsFileFlaw source name file flaw ⊎ (flaw ≡ Io)

-- all files pass
abbrev pub FilesPass : Source → List ℕ → List (List ℕ × Holds) → Type 0
FilesPass source name files = All (FilePasses source name) files

-- reading files in order stops by the flaw at the first that does not pass
abbrev pub StopsInFiles : Source → List ℕ → List (List ℕ × Holds) → Flaw → Type 0
StopsInFiles source name files flaw =
    StopsFirst (FilePasses source name) (λ file. StopsAtFile source name file flaw) files
