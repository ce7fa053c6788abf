-- Whether a service has moved, is up or has changed, by the sets of a run.
use Rattle.std.specs.Prelude.{◌⊎◌, ℕ, List, Bool}
use Rattle.rc_model.specs.Names.{Has}

-- a service that was to move is not left, and has not failed
abbrev pub HasMoved : List Bool → List Bool → List Bool → ℕ → Type 0
HasMoved planned left failed s =
    (Has planned s × (Has left s → ⊥)) × (Has failed s → ⊥)

-- a service was up and did not go down, or came up
abbrev pub IsWhere : List Bool → List Bool → List Bool → List Bool → List Bool → ℕ → Type 0
IsWhere up lower raise left failed s =
    (Has up s × (HasMoved lower left failed s → ⊥)) ⊎ HasMoved raise left failed s

-- a service was in a set and did not go down, or came up
abbrev pub IsChanged : List Bool → List Bool → List Bool → ℕ → Type 0
IsChanged set lowered raised s = (Has set s × (Has lowered s → ⊥)) ⊎ Has raised s
