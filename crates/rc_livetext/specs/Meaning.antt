-- What a live text says of a database.
use Rattle.std.specs.Prelude.{◌≡◌, ◌≢◌, ◌<◌, ℕ, List, [], ◌∷◌, ◌++◌, length, take, All, Contains}
use Rattle.std.specs.Prelude.{Option, Some, None, slice_get}
use Rattle.rc_names.specs.Names.{IsNamed}
use Rattle.rc_model.specs.Graph.{IsClosed}
use Rattle.rc_model.specs.Database.{Database}
use Rattle.rc_livetext.specs.Text.{LiveText, StateText}

-- the states of a text, from the oldest to the newest
abbrev pub all_states : LiveText → List StateText
all_states t = t.before ++ t.current ∷ t.after

-- what is up and the members of bundles are services, and no bundle has the name of one
pub record IsKnownState (names : List (List ℕ)) (s : StateText) : Type 0 where
  pub live : All (Contains names) s.live
  pub members : All (λ b. All (Contains names) b.members) s.bundles
  pub apart : All (λ b. Contains names b.name → ⊥) s.bundles

-- what is up in the state has all that it needs up
abbrev pub IsClosedState : Database → StateText → Type 0
IsClosedState d s = IsClosed d.needs (IsNamed d.names s.live)

-- at this place stands the first that is not such
abbrev pub IsFirstNot : {X : Type 0} → (X → Type 0) → List X → ℕ → Type 0
IsFirstNot {X} P xs place =
    (x : X) × (slice_get xs place ≡ Some x) × (P x → ⊥) × All P (take place xs)

-- each state differs from the next one
abbrev pub TextsDiffer : List StateText → Type 0
TextsDiffer [] = Unit {0}
TextsDiffer (a ∷ []) = Unit {0}
TextsDiffer (a ∷ b ∷ rest) = (a ≢ b) × TextsDiffer (b ∷ rest)

-- the most states that a text may have by what it says of it; an older one says nothing
abbrev pub most_states : Option ℕ → ℕ
most_states (Some bound) = bound
most_states None = 4294967295

-- the text has more states than it may
abbrev pub IsOver : LiveText → Type 0
IsOver t = most_states t.bound < length (all_states t)

-- the tests on what a text says, in their order, each asked only where those before are passed
pub record PassesServices (d : Database) (t : LiveText) : Type 0 where
  pub services : t.services ≡ d.names

pub record PassesNames (d : Database) (t : LiveText) : Type 0 where
  pub before : PassesServices d t
  pub known : All (IsKnownState d.names) (all_states t)

pub record PassesClosed (d : Database) (t : LiveText) : Type 0 where
  pub before : PassesNames d t
  pub closed : All (IsClosedState d) (all_states t)

pub record PassesDiffer (d : Database) (t : LiveText) : Type 0 where
  pub before : PassesClosed d t
  pub differ : TextsDiffer (all_states t)
