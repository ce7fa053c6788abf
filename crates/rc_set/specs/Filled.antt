-- Lists in which a value stands at certain places.
use Rattle.std.specs.Prelude.{◌≡◌, ℕ, ◌<◌, List, length, slice_index_or}

-- a value stands in a list at each place of which a fact holds, and all others are as before
pub record Fills {X : Type 0} (P : ℕ → Type 0) (old new : List X) (value : X) : Type 0 where
  pub bound : length new ≡ length old
  pub filled : (s : ℕ) (d : X) → s < length old → P s → slice_index_or new s d ≡ value
  pub same : (s : ℕ) (d : X) → (P s → ⊥) → slice_index_or new s d ≡ slice_index_or old s d
