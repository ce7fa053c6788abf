-- Why a text is no name: the first fault in order.
use Rattle.std.specs.Prelude.{◌≡◌, ◌<◌, ◌≤◌, ℕ, List, [], length}
use Rattle.rc_names.specs.declared.name.NameFault.{NameFault}
use Rattle.rc_names.specs.declared.name.NameFault.TheVariants.{Empty, Long, BadByte, Reserved}
use Rattle.rc_names.specs.declared.name.NameFault.TheVariants.{Memory}
use Rattle.rc_model.specs.Names.{HasNameBytes, IsReserved, IsName}

-- the first fault of a text in the order of the faults; out of memory
-- shows only at a text that is a name
abbrev pub IsWrongBy : NameFault → List ℕ → Type 0
IsWrongBy Empty text = text ≡ []
IsWrongBy Long text = 255 < length text
IsWrongBy BadByte text = (0 < length text) × (length text ≤ 255) × (HasNameBytes text → ⊥)
IsWrongBy Reserved text =
    (0 < length text) × (length text ≤ 255) × HasNameBytes text × IsReserved text
IsWrongBy Memory text = IsName text
