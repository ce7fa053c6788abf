-- Tests in order: where reading stops first.
use Rattle.std.specs.Prelude.{◌⊎◌, List, [], ◌∷◌}

-- of things that are tested in order, the first that does not pass is one at which reading stops
abbrev pub StopsFirst : {A : Type 0} → (A → Type 0) → (A → Type 0) → List A → Type 0
StopsFirst Passes Stops [] = ⊥
StopsFirst Passes Stops (test ∷ rest) = Stops test ⊎ (Passes test × StopsFirst Passes Stops rest)
