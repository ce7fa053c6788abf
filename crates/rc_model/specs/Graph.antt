-- Who needs whom: paths, cycles, and what is closed.
use Rattle.std.specs.Prelude.{◌<◌, ◌≤◌, ℕ, List, [], ◌∷◌, ◌++◌, length, slice_index_or, Contains}
use Rattle.std.specs.Prelude.{◌⊎◌}
use Rattle.rc_model.specs.Names.{IsAscending}

-- s needs t, where the s-th list says what s needs
abbrev pub Needs : List (List ℕ) → ℕ → ℕ → Type 0
Needs needs s t = Contains (slice_index_or needs s []) t

-- each service of the list needs the next one
abbrev pub EachNeedsNext : List (List ℕ) → List ℕ → Type 0
EachNeedsNext needs [] = Unit {0}
EachNeedsNext needs (s ∷ []) = Unit {0}
EachNeedsNext needs (s ∷ t ∷ rest) = Needs needs s t × EachNeedsNext needs (t ∷ rest)

-- a path of one step or more leads from s to t: the transitive closure of `Needs`
abbrev pub Reaches : List (List ℕ) → ℕ → ℕ → Type 0
Reaches needs s t = (between : List ℕ) × EachNeedsNext needs (s ∷ (between ++ t ∷ []))

-- no service reaches itself
abbrev pub IsAcyclic : List (List ℕ) → Type 0
IsAcyclic needs = (s : ℕ) → Reaches needs s s → ⊥

-- what is needed is a service
abbrev pub AreServices : List (List ℕ) → Type 0
AreServices needs = (s t : ℕ) → Needs needs s t → t < length needs

-- at most 4,096 lists, one for each service, each ascending, of services alone
pub record AreNeeds (needs : List (List ℕ)) : Type 0 where
  pub few : length needs ≤ 4096
  pub ascending : (s : ℕ) → IsAscending (slice_index_or needs s [])
  pub known : AreServices needs

-- closed under needs: all that a member needs is a member
abbrev pub IsClosed : List (List ℕ) → (ℕ → Type 0) → Type 0
IsClosed needs In = (s t : ℕ) → In s → Needs needs s t → In t

-- the members, and all that they need, directly or not: what comes up with them
abbrev pub UpFrom : List (List ℕ) → (ℕ → Type 0) → ℕ → Type 0
UpFrom needs In t = In t ⊎ ((s : ℕ) × In s × Reaches needs s t)

-- the members, and all that need one of them, directly or not: what goes down with them
abbrev pub DownFrom : List (List ℕ) → (ℕ → Type 0) → ℕ → Type 0
DownFrom needs In s = In s ⊎ ((t : ℕ) × In t × Reaches needs s t)
