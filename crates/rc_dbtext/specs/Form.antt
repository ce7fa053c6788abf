-- Forms: values with their lines, and what of a value stands at the beginning of bytes.
use Rattle.std.specs.Prelude.{◌≡◌, ◌+◌, ℕ, List, ◌∷◌, ◌++◌, length, take}
use Rattle.std.specs.List.{flat_map}

-- the bytes of lines, each spelled so
abbrev pub spells : {L : Type 0} → (L → List ℕ) → List L → List ℕ
spells spell lines = flat_map spell lines

-- the value is such, and its lines stand in front of the rest
abbrev pub IsRead : {L A : Type 0} → (L → List ℕ) → (A → Type 0) → (A → List L)
    → List ℕ → A → List ℕ → Type 0
IsRead spell Is lines bytes value rest = Is value × (bytes ≡ spells spell (lines value) ++ rest)

-- the lines of some value stand at the beginning up to the one that is due, where the rest begins,
-- and no value has one line more there
pub record IsStuck {L A : Type 0} (spell : L → List ℕ) (Is : A → Type 0) (lines : A → List L)
    (bytes rest : List ℕ) (due : L) : Type 0 where
  pub value : A
  pub before : List L
  pub after : List L
  pub is : Is value
  pub parts : lines value ≡ before ++ due ∷ after
  pub front : bytes ≡ spells spell before ++ rest
  pub none : (other : A) (tail : List ℕ) → Is other
      → bytes ≡ spells spell (take (length before + 1) (lines other)) ++ tail → ⊥
