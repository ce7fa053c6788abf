-- The lists of a table in one list.
use Rattle.std.specs.Prelude.{ℕ, List, ◌∷◌, length}
use Rattle.std.specs.List.{flat_map}

-- the lists one behind the other, each behind its length
abbrev pub flat_of : List (List ℕ) → List ℕ
flat_of lists = flat_map (λ (list : List ℕ). length list ∷ list) lists
