-- When bytes are refused as the text of a database, and by which fault.
use Rattle.std.specs.Prelude.{◌≡◌, ◌≢◌, ◌+◌, ◌++◌, ◌⊎◌, ℕ, List, [], length}
use Rattle.rc_dbtext.specs.declared.syntax.fault.FormFault.{FormFault}
use Rattle.rc_dbtext.specs.declared.syntax.fault.FormFault.TheVariants as form
use Rattle.rc_dbtext.specs.Text.{DbText, IsDbText, db_lines, db_text}
use Rattle.rc_dbtext.specs.Reading.{IsRefused}
use Rattle.rc_dbtext.specs.declared.fault.TextFault.{TextFault}
use Rattle.rc_dbtext.specs.declared.fault.TextFault.TheVariants.{Bad, Version, NotSorted, Cyclic}
use Rattle.rc_dbtext.specs.declared.fault.TextFault.TheVariants.{TooMany, Dangling, Memory}
use Rattle.rc_dbtext.specs.Meaning.{IsSorted, IsComplete, IsCyclic}

-- the form of the prefix is refused for this
abbrev pub HasFormFault : List ℕ → FormFault → Type 0
HasFormFault bytes fault = IsRefused IsDbText db_lines bytes fault

-- a line has not the form that is due, and begins at this offset
abbrev pub IsBadAt : List ℕ → ℕ → Type 0
IsBadAt bytes offset =
    (left : ℕ) × (offset + left ≡ length bytes) × HasFormFault bytes (form.Bad left)

-- the bytes are the text of this value, and then the rest
abbrev pub BeginsWith : List ℕ → DbText → List ℕ → Type 0
BeginsWith bytes t rest = IsDbText t × (bytes ≡ db_text t ++ rest)

-- after a text stand more bytes, from this offset on
abbrev pub HasMoreAt : List ℕ → ℕ → Type 0
HasMoreAt bytes offset = (t : DbText) × (rest : List ℕ) × BeginsWith bytes t rest × (rest ≢ [])
    × (offset ≡ length (db_text t))

-- when what a text says is refused, in this order: lists that do not ascend, names that stand for
-- no service that they may, a cycle
abbrev pub IsMeaningFault : DbText → TextFault → Type 0
IsMeaningFault t (Bad offset) = ⊥
IsMeaningFault t Version = ⊥
IsMeaningFault t NotSorted = IsSorted t → ⊥
IsMeaningFault t Cyclic = IsSorted t × IsComplete t × IsCyclic t.services
IsMeaningFault t TooMany = ⊥
IsMeaningFault t Dangling = IsSorted t × (IsComplete t → ⊥)
IsMeaningFault t Memory = Unit {0}

-- when the prefix of bytes is refused: for its form, and where that is a
-- text's, for what the text says
abbrev pub IsFrontFault : List ℕ → TextFault → Type 0
IsFrontFault bytes (Bad offset) = IsBadAt bytes offset
IsFrontFault bytes Version = HasFormFault bytes form.Version
IsFrontFault bytes NotSorted =
    (t : DbText) × (rest : List ℕ) × BeginsWith bytes t rest × IsMeaningFault t NotSorted
IsFrontFault bytes Cyclic =
    (t : DbText) × (rest : List ℕ) × BeginsWith bytes t rest × IsMeaningFault t Cyclic
IsFrontFault bytes TooMany = HasFormFault bytes form.TooMany
IsFrontFault bytes Dangling =
    (t : DbText) × (rest : List ℕ) × BeginsWith bytes t rest × IsMeaningFault t Dangling
IsFrontFault bytes Memory = Unit {0}

-- when bytes that are to be one text are refused: bytes after a text are bad before
-- it is asked what the text says
abbrev pub IsWholeFault : List ℕ → TextFault → Type 0
IsWholeFault bytes (Bad offset) = IsBadAt bytes offset ⊎ HasMoreAt bytes offset
IsWholeFault bytes Version = HasFormFault bytes form.Version
IsWholeFault bytes NotSorted = (t : DbText) × BeginsWith bytes t [] × IsMeaningFault t NotSorted
IsWholeFault bytes Cyclic = (t : DbText) × BeginsWith bytes t [] × IsMeaningFault t Cyclic
IsWholeFault bytes TooMany = HasFormFault bytes form.TooMany
IsWholeFault bytes Dangling = (t : DbText) × BeginsWith bytes t [] × IsMeaningFault t Dangling
IsWholeFault bytes Memory = Unit {0}
