-- Sets that are joined along the lists of a graph.
use Rattle.std.specs.Prelude.{◌≡◌, ◌⊎◌, ℕ, Bool, List, [], length, slice_index_or, All, Contains}
use Rattle.rc_model.specs.Names.{Has}
use Rattle.rc_model.specs.Graph.{UpFrom}

-- all sets have this bound
abbrev pub AllWithin : ℕ → List (List Bool) → Type 0
AllWithin bound sets = All (λ set. length set ≡ bound) sets

-- the set of the id or that of one of the list has this
abbrev pub HasJoined : List (List Bool) → ℕ → List ℕ → ℕ → Type 0
HasJoined sets id list x = Has (slice_index_or sets id []) x
    ⊎ ((t : ℕ) × Contains list t × Has (slice_index_or sets t []) x)

-- the set of the id or that of one that it reaches has this
abbrev pub HasAlong : List (List ℕ) → List (List Bool) → ℕ → ℕ → Type 0
HasAlong needs sets id x = (t : ℕ) × UpFrom needs (λ s. s ≡ id) t × Has (slice_index_or sets t []) x
