-- Where the database stands, and what is after it.
use Rattle.std.specs.Prelude.{◌≡◌, ◌++◌, List, ℕ, Option, None, Some, option_map}
use Rattle.std.specs.Borrow.{Bor}
use Rattle.rc_model.specs.Database.{Database, IsDatabase}
use Rattle.rc_db.specs.Database.{IsWritable}
use Rattle.rc_dbtext.specs.Spelling.{spelling}
use Rattle.rc_dbtext.specs.TextFaults.{IsFrontFault, IsWholeFault}
use Rattle.rc_dbtext.specs.declared.fault.TextFault.{TextFault}

-- the bytes of a base, if there is one
abbrev pub bytes_of : Option (Bor (List ℕ)) → Option (List ℕ)
bytes_of base = option_map (λ (b : Bor (List ℕ)). b.now) base

-- a base is the text of a database, and then the input is all after it; without one the text
-- stands at the beginning of the input
abbrev pub Spells : Option (List ℕ) → List ℕ → Database → List ℕ → Type 0
Spells (Some base) input d rest = IsDatabase d × IsWritable d × (base ≡ spelling d) × (rest ≡ input)
Spells None input d rest = IsDatabase d × IsWritable d × (input ≡ spelling d ++ rest)

-- when the text is refused
abbrev pub IsTextFault : Option (List ℕ) → List ℕ → TextFault → Type 0
IsTextFault (Some base) input = IsWholeFault base
IsTextFault None input = IsFrontFault input
