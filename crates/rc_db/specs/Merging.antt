-- Which of two lists of names has the next name in byte order.
use Rattle.std.specs.Prelude.{◌≡◌, ℕ, List, Some, slice_get}
use Rattle.rc_model.specs.Names.{IsBefore}

-- at this place of the first names stands one that is before the one at that place
-- of the others, if there is one
abbrev pub IsNext : List (List ℕ) → ℕ → List (List ℕ) → ℕ → Type 0
IsNext names i others j = (name : List ℕ) × (slice_get names i ≡ Some name)
    × ((other : List ℕ) → slice_get others j ≡ Some other → IsBefore name other)
