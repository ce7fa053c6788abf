-- Transitions that are named on the command line, found among the names of a database.
use Rattle.std.specs.Prelude.{◌≡◌, ◌++◌, ◌∷◌, ℕ, List, [], Some, slice_get, All, Contains}
use Rattle.rc_graph.specs.declared.Way.{Way}
use Rattle.rc_args.specs.Listed.{Listed}
use Rattle.rc_cli.specs.declared.sessions.failing.GateFault.{GateFault}
use Rattle.rc_cli.specs.declared.sessions.failing.GateFault.TheVariants.{Unknown, Memory}

-- the transitions by the places of their services among the names
abbrev pub AreFound : List (List ℕ) → List Listed → List (ℕ × Way) → Type 0
AreFound names [] [] = Unit {0}
AreFound names [] (entry ∷ more) = ⊥
AreFound names (one ∷ all) [] = ⊥
AreFound names (one ∷ all) (entry ∷ more) =
    (slice_get names entry.0 ≡ Some one.name) × (entry.1 ≡ one.way) × AreFound names all more

-- the first of the transitions whose name is no service's
abbrev pub IsFirstUnknown : List (List ℕ) → List Listed → List ℕ → Type 0
IsFirstUnknown names all word =
    (before : List Listed) × (one : Listed) × (after : List Listed) × (all ≡ before ++ one ∷ after)
    × (one.name ≡ word) × All (λ known. Contains names known.name) before
    × (Contains names word → ⊥)

-- why there is no gate
abbrev pub IsGateFault : List (List ℕ) → List Listed → GateFault → Type 0
IsGateFault names all (Unknown word) = IsFirstUnknown names all word.now
IsGateFault names all Memory = Unit {0}
