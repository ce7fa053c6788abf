-- Two tables that are walked side by side: the next name, and whether its sets differ.
use Rattle.std.specs.Prelude.{◌≡◌, ◌≢◌, ◌+◌, ◌⊎◌, ℕ, Bool, List, [], ◌∷◌, ◌++◌, Option, Some, None}
use Rattle.std.specs.Prelude.{slice_get}
use Rattle.rc_model.specs.Names.{IsBefore}
use Rattle.rc_model.specs.Database.{Bundles}
use Rattle.rc_model.specs.Line.{Alteration}

-- the name stands before the bundle at a place of the table, if there is one
abbrev pub IsBeforeAt : List ℕ → Bundles → ℕ → Type 0
IsBeforeAt name table place = (name_there : List ℕ) (set : List Bool) →
    slice_get table place ≡ Some (name_there, set) → IsBefore name name_there

-- of two tables that are walked side by side, the next name with its sets: the least of
-- those that stand at the two places
abbrev pub IsNextName : Bundles → ℕ → Bundles → ℕ → List ℕ → Option (List Bool) →
    Option (List Bool) → Type 0
IsNextName old i new j name (Some before) (Some after) =
    (slice_get old i ≡ Some (name, before)) × (slice_get new j ≡ Some (name, after))
IsNextName old i new j name (Some before) None =
    (slice_get old i ≡ Some (name, before)) × IsBeforeAt name new j
IsNextName old i new j name None (Some after) =
    (slice_get new j ≡ Some (name, after)) × IsBeforeAt name old i
IsNextName old i new j name None None = ⊥

-- the place one on, where a set stood there
abbrev pub next_place : ℕ → Option (List Bool) → ℕ
next_place place None = place
next_place place (Some set) = place + 1

-- the name is noted with its sets where they differ
abbrev pub IsNoted : List Alteration → List Alteration → List ℕ → Option (List Bool) →
    Option (List Bool) → Type 0
IsNoted old new name before after = ((before ≡ after) × (new ≡ old))
    ⊎ ((before ≢ after) × (new ≡ old ++ record { name = name; before = before; after = after }
    ∷ []))
