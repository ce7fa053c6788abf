-- Under which names services go on in another database.
use Rattle.std.specs.Prelude.{Bool, List, [], ◌∷◌, Option, None, Some, ℕ, false, true, map}
use Rattle.std.specs.Prelude.{if◌then◌else◌}
use Rattle.std.specs.Str.{bytes_eq}
use Rattle.rc_update.specs.declared.conversion.Conversion.{Conversion as Given}

-- the service of this old name goes on as the one of this new name, and does not stay up where it
-- is to be restarted
pub record Conversion : Type 0 where
  pub old : List ℕ
  pub new : List ℕ
  pub restart : Bool

-- the same of what the program has
abbrev pub conversion_of : Given → Conversion
conversion_of given =
    record { old = given.old.now; new = given.new.now; restart = given.restart }

abbrev pub conversions_of : List Given → List Conversion
conversions_of given = map conversion_of given

-- the first conversion of an old name
abbrev pub conversion_for : List Conversion → List ℕ → Option Conversion
conversion_for [] name = None
conversion_for (first ∷ more) name =
    if bytes_eq first.old name then Some first else conversion_for more name

-- whether a conversion has this new name
abbrev pub is_taken : List Conversion → List ℕ → Bool
is_taken [] name = false
is_taken (first ∷ more) name = if bytes_eq first.new name then true else is_taken more name

-- the name under which the service of a name goes on, if it does: the new name of its conversion;
-- and where it has none its own, unless that is the new name of another service
abbrev pub name_by : Option Conversion → (taken : Bool) → List ℕ → Option (List ℕ)
name_by (Some conversion) taken name = Some conversion.new
name_by None true name = None
name_by None false name = Some name

abbrev pub counterpart : List Conversion → List ℕ → Option (List ℕ)
counterpart list name = name_by (conversion_for list name) (is_taken list name) name

-- whether the service of a name is to be restarted
abbrev pub restart_by : Option Conversion → Bool
restart_by None = false
restart_by (Some conversion) = conversion.restart

abbrev pub is_restarted : List Conversion → List ℕ → Bool
is_restarted list name = restart_by (conversion_for list name)
