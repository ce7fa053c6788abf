-- One step of a walk: a list is met, and what of it is new is left to follow.
use Rattle.std.specs.Prelude.{◌≡◌, ◌≤◌, ◌+◌, ◌⊎◌, ◌↔◌, ℕ, Bool, List, not, length, count_by}
use Rattle.std.specs.Prelude.{Contains}
use Rattle.rc_model.specs.Names.{Has, Holds}

-- a list is met: all of it is seen, what of it is new is to be followed, and no
-- more is left to do than before
pub record Meets (old : List Bool) (left list : List ℕ) (new : List Bool)
    (more : List ℕ) : Type 0 where
  pub bound : length new ≡ length old
  pub members : Holds new (λ s. Has old s ⊎ Contains list s)
  pub todo : (s : ℕ) → Contains more s ↔ (Contains left s ⊎ (Contains list s × (Has old s → ⊥)))
  pub cost : count_by not new + length more ≤ count_by not old + length left
