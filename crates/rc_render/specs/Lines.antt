-- Lines of names: one name a line, or a word and names after it.
use Rattle.rc_model.specs.Line.{Lists}
use Rattle.std.specs.Prelude.{◌≡◌, ℕ, List, [], ◌∷◌, ◌++◌, map, slice_index_or}
use Rattle.std.specs.List.{flat_map}

-- a text with its newline
abbrev pub line : List ℕ → List ℕ
line text = text ++ 10 ∷ []

-- a word and names after it, one space before each; nothing where there is no name
abbrev pub names_line : List ℕ → List (List ℕ) → List ℕ
names_line word [] = []
names_line word (name ∷ names) = line (word ++ flat_map (λ n. 32 ∷ n) (name ∷ names))

-- one name a line
abbrev pub name_lines : List (List ℕ) → List ℕ
name_lines names = flat_map line names

-- the names of services, by their ids
abbrev pub names_at : List (List ℕ) → List ℕ → List (List ℕ)
names_at names ids = map (λ id. slice_index_or names id []) ids

-- the line of the services of which this holds, in byte order
abbrev pub IsLineOf : List ℕ → List (List ℕ) → (ℕ → Type 0) → List ℕ → Type 0
IsLineOf word names P text =
    (ids : List ℕ) × Lists P ids × (text ≡ names_line word (names_at names ids))
