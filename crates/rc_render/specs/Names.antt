-- Lines of the services of a set and of bundles.
use Rattle.std.specs.Prelude.{ℕ, Bool, true, false, List, [], ◌∷◌, ◌++◌, codes}
use Rattle.std.specs.List.{flat_map}
use Rattle.rc_model.specs.Database.{Bundles}
use Rattle.rc_render.specs.Lines.{line}

-- the names of the services of a set, in byte order
abbrev pub names_in : List (List ℕ) → List Bool → List (List ℕ)
names_in [] set = []
names_in (name ∷ names) [] = []
names_in (name ∷ names) (true ∷ set) = name ∷ names_in names set
names_in (name ∷ names) (false ∷ set) = names_in names set

-- a word and the names of a set after it, one space before each; the
-- word alone where the set is empty
abbrev pub set_line : List ℕ → List (List ℕ) → List Bool → List ℕ
set_line word names set = line (word ++ flat_map (λ name. 32 ∷ name) (names_in names set))

-- the line of what is live
abbrev pub live_text : List (List ℕ) → List Bool → List ℕ
live_text names live = set_line (codes "live") names live

-- the line of a bundle: its name, and its members
abbrev pub bundle_line : List (List ℕ) → List ℕ × List Bool → List ℕ
bundle_line names bundle = set_line (codes "bundle " ++ bundle.0) names bundle.1

-- the lines of bundles, in byte order
abbrev pub bundles_text : List (List ℕ) → Bundles → List ℕ
bundles_text names table = flat_map (bundle_line names) table

-- the last line of what is done
abbrev pub ok_line : List ℕ
ok_line = line (codes "ok")
