-- The least number of which a fact holds, from some number on.
use Rattle.std.specs.Prelude.{ℕ, ◌<◌, ◌≤◌}

-- the least number from this one on of which a fact holds
pub record IsNextFrom (P : ℕ → Type 0) (from s : ℕ) : Type 0 where
  pub holds : P s
  pub behind : from ≤ s
  pub least : (t : ℕ) → from ≤ t → t < s → P t → ⊥

-- the fact holds of no number from this one on
abbrev pub HasNoneFrom : (ℕ → Type 0) → ℕ → Type 0
HasNoneFrom P from = (s : ℕ) → from ≤ s → P s → ⊥
