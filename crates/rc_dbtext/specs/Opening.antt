-- A base and an input: the base comes first.
use Rattle.std.specs.Prelude.{◌≡◌, ◌≢◌, ◌⊎◌, ◌≤◌, ℕ, List, [], Option, None, Some, IfSome, drop}
use Rattle.std.specs.Prelude.{length}
use Rattle.std.specs.Io.KnownBytes.{IsAtEnd}
use Rattle.rc_model.specs.Database.{Database, IsDatabase}
use Rattle.rc_db.specs.Database.{IsWritable}
use Rattle.rc_dbtext.specs.Spelling.{spelling}
use Rattle.rc_dbtext.specs.TextFaults.{IsWholeFault}
use Rattle.rc_dbtext.specs.declared.fault.TextFault.TheVariants as text
use Rattle.rc_streams.specs.Input.{IsCause}
use Rattle.rc_dbtext.specs.Base.{IsTextFault, Spells}
use Rattle.rc_dbtext.specs.declared.opening.OpenFault.{OpenFault}
use Rattle.rc_dbtext.specs.declared.opening.OpenFault.TheVariants.{OfText, Failed}

-- there is a base, and it is the text of no database
abbrev pub IsWrongBase : Option (List ℕ) → Type 0
IsWrongBase None = ⊥
IsWrongBase (Some base) = (d : Database) → IsDatabase d → IsWritable d → base ≡ spelling d → ⊥

-- all that a reader has was read, and it is within the bound
abbrev pub ReadsAll : (remaining after : Option (List ℕ)) → List ℕ → Type 0
ReadsAll remaining after input =
    IfSome remaining (λ all. input ≡ all) × (length input ≤ 16777216) × IsAtEnd after

-- the input that the database is looked for in: none of it where there is a base,
-- and else all of what a reader has
abbrev pub Reads : Option (List ℕ) → (remaining after : Option (List ℕ)) → List ℕ → Type 0
Reads (Some base) remaining after input = (input ≡ []) × (after ≡ remaining)
Reads None remaining after input = ReadsAll remaining after input

-- the whole input was read, and what is after the database begins at this place of it
pub record Opens (base remaining after : Option (List ℕ)) (d : Database) (input : List ℕ)
    (start : ℕ) : Type 0 where
  pub within : start ≤ length input
  pub reads : ReadsAll remaining after input
  pub spelled : Spells base input d (drop start input)

-- why there is no database of a base: its text is refused, and then, out of
-- memory aside, it is the text of none
abbrev pub IsBaseFault : List ℕ → OpenFault → Type 0
IsBaseFault base (OfText wrong) =
    IsWholeFault base wrong × (wrong ≢ text.Memory → IsWrongBase (Some base))
IsBaseFault base (Failed failure) = ⊥

-- why the input was not read whole: it is too long, the reader has failed, or memory ran out
abbrev pub IsInputFault : Option (List ℕ) → (failed : Type 0) → OpenFault → Type 0
IsInputFault remaining failed (OfText wrong) = ⊥
IsInputFault remaining failed (Failed failure) = IsCause remaining failed ⊥ failure

-- why there is no database with its input: the text is refused, that of a base before anything is
-- read; or the input was not read whole, and then no base is wrong
abbrev pub IsOpenFault : Option (List ℕ) → (remaining after : Option (List ℕ)) → (failed : Type 0) →
    OpenFault → Type 0
IsOpenFault base remaining after failed (OfText wrong) = (input : List ℕ)
    × Reads base remaining after input × IsTextFault base input wrong
    × (wrong ≢ text.Memory → (base ≡ None) ⊎ IsWrongBase base)
IsOpenFault base remaining after failed (Failed failure) =
    (IsWrongBase base → ⊥) × IsInputFault remaining failed (Failed failure)
