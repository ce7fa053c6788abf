-- When a look into a tree is refused: a device fails, or a file is too long.
use Rattle.std.specs.Prelude.{◌≡◌, ◌<◌, ◌≤◌, ◌+◌, ◌-◌, ◌^◌, min, ℕ, List, length, Option, Some}
use Rattle.rc_source.specs.declared.tree.TreeFault.{TreeFault}
use Rattle.rc_source.specs.declared.tree.TreeFault.TheVariants.{Io, TooLong, Memory}
use Rattle.rc_source.specs.Tree.{Source, file_at}

-- a device failed between two looks at the count of its failures: the count
-- rose, or it is at its last value
abbrev pub HasFailed : ℕ → ℕ → Type 0
HasFailed before after = min (before + 1) (2 ^ 64 - 1) ≤ after

-- a file that is not read
abbrev pub IsTooLong : List ℕ → Type 0
IsTooLong bytes = 65536 < length bytes

-- when a call that reads no file is refused
abbrev pub IsCallFault : ℕ → ℕ → TreeFault → Type 0
IsCallFault before after Io = HasFailed before after
IsCallFault before after TooLong = ⊥
IsCallFault before after Memory = Unit {0}

-- when reading a file is refused, where it is known what the tree holds
abbrev pub IsReadFault : ℕ → ℕ → Option Source → List ℕ → List ℕ → TreeFault → Type 0
IsReadFault before after held service file Io = HasFailed before after
IsReadFault before after held service file TooLong = (source : Source) → held ≡ Some source →
    (bytes : List ℕ) × (file_at source service file ≡ Some bytes) × IsTooLong bytes
IsReadFault before after held service file Memory = Unit {0}
