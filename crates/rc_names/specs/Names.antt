-- Lists of names in byte order: what they list, what is added, and where a missing name would
-- stand.
use Rattle.std.specs.Prelude.{◌≡◌, ◌≤◌, ◌↔◌, ◌⊎◌, ℕ, List, length, Contains, Some, slice_get}
use Rattle.std.specs.List.{AllWithin}
use Rattle.rc_model.specs.Names.{IsBefore, IsInByteOrder}

-- the new texts are the old ones and this one
abbrev pub Adds : List (List ℕ) → List ℕ → List (List ℕ) → Type 0
Adds old name new = (text : List ℕ) → Contains new text ↔ (Contains old text ⊎ (text ≡ name))

-- a text that is no name would stand at this place: the names before it are before the text, and
-- the others after it
pub record IsGap (names : List (List ℕ)) (text : List ℕ) (place : ℕ) : Type 0 where
  pub within : place ≤ length names
  pub before : AllWithin (λ name. IsBefore name text) names 0 place
  pub after : AllWithin (λ name. IsBefore text name) names place (length names)

-- the names of which this holds, each once, in byte order
pub record ListsNames (P : List ℕ → Type 0) (names : List (List ℕ)) : Type 0 where
  pub order : IsInByteOrder names
  pub same : (name : List ℕ) → Contains names name ↔ P name

-- the s-th name is one of the words
abbrev pub IsNamed : List (List ℕ) → List (List ℕ) → ℕ → Type 0
IsNamed names words s = (name : List ℕ) × (slice_get names s ≡ Some name) × Contains words name
